-- A file that is opened step after step is opened as its faults say.
use Rattle.std.proofs.Common.{◌≡◌, ℕ, ◌*◌, ◌==◌, Bool, true, false, nat_le, nat_lt, List, Option, None, Some}
use Rattle.std.proofs.Common.{inl, inr, refl}
use Rattle.std.proofs.lemmas.Bool.{cases_Bool}
use Rattle.std.specs.Prelude.{length, ◌+◌}
use Rattle.dl_elf.specs.declared.header.FileHeader.{FileHeader}
use Rattle.dl_elf.specs.Elf.{section_header_size}
use Rattle.dl_elf.specs.OpenedBySteps.{opened_with}
use Rattle.dl_elf.specs.Sections.{count_in, header_place, lies_within, names_in, opened_by, range_within}
use Rattle.dl_elf.specs.Sections.{section_header, section_range}

-- whether section header i lies in the file
abbrev lies : FileHeader → List ℕ → ℕ → Bool
lies h f i = nat_le (header_place h i + section_header_size h.class) (length f)

abbrev Same : FileHeader → List ℕ → Type 0
Same h f = opened_with f (Some h) ≡ opened_by f (Some h)

-- there are sections, whose headers are long enough, and header 0 lies in the file
abbrev Begins : FileHeader → List ℕ → Type 0
Begins h f = ((h.table_offset == 0) ≡ false) × (nat_lt h.entry_size (section_header_size h.class) ≡ false)
    × (lies h f 0 ≡ true)

named_same : (h : FileHeader) (f : List ℕ) → Begins h f → lies_within h.table_offset (count_in h f * h.entry_size) f ≡ true
    → (names_in h f == 0) ≡ false → nat_le (count_in h f) (names_in h f) ≡ false → Same h f
named_same h f (some, whole, first) within named less = elim (cases_Bool (lies h f (names_in h f))) [
  | inr out ↦ rw (some, whole, first, within, named, less, out) refl
  | inl there ↦ elim (cases_Bool (range_within (section_range (section_header h f (names_in h f))) f)) [
    | inr out ↦ rw (some, whole, first, within, named, less, there, out) refl
    | inl held ↦ rw (some, whole, first, within, named, less, there, held) refl
  ]
]

counted_same : (h : FileHeader) (f : List ℕ) → Begins h f → Same h f
counted_same h f (some, whole, first) = elim (cases_Bool (lies_within h.table_offset (count_in h f * h.entry_size) f)) [
  | inr out ↦ rw (some, whole, first, out) refl
  | inl within ↦ elim (cases_Bool (names_in h f == 0)) [
    | inl none ↦ rw (some, whole, first, within, none) refl
    | inr named ↦ elim (cases_Bool (nat_le (count_in h f) (names_in h f))) [
      | inl past ↦ rw (some, whole, first, within, named, past) refl
      | inr less ↦ named_same h f (some, whole, first) within named less
    ]
  ]
]

header_same : (h : FileHeader) (f : List ℕ) → Same h f
header_same h f = elim (cases_Bool (h.table_offset == 0)) [
  | inl none ↦ rw none refl
  | inr some ↦ elim (cases_Bool (nat_lt h.entry_size (section_header_size h.class))) [
    | inl short ↦ rw (some, short) refl
    | inr whole ↦ elim (cases_Bool (lies h f 0)) [
      | inr out ↦ rw (some, whole, out) refl
      | inl first ↦ counted_same h f (some, whole, first)
    ]
  ]
]

pub steps_same : (f : List ℕ) (header : Option FileHeader) → opened_with f header ≡ opened_by f header
steps_same f None = refl
steps_same f (Some h) = header_same h f
