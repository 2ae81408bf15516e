-- Section headers in known bytes.
use Rattle.std.proofs.Common.{◌≡◌, ℕ, ◌+◌, ◌<◌, ◌≤◌, ◌^◌, List, length, take, drop, Option}
use Rattle.std.proofs.Common.{Some, None, sym, ap, ◌∙◌, arith, length-take, length-drop}
use Rattle.std.proofs.lemmas.Grind.{common_steps}
use Rattle.dl_elf.specs.Source.{ForBytes}
use Rattle.dl_elf.specs.declared.header.Class.{Class}
use Rattle.dl_elf.specs.declared.header.Class.TheVariants.{Bits32, Bits64}
use Rattle.dl_elf.specs.declared.header.FileHeader.{FileHeader}
use Rattle.dl_elf.specs.declared.section.SectionHeader.{SectionHeader}
use Rattle.dl_elf.specs.Elf.{section_header_size, section_fields}
use Rattle.dl_elf.specs.Sections.{header_place, section_in, section_header}

pub section_outside : (h : FileHeader) (f : List ℕ) (i : ℕ) → length f < header_place h i + section_header_size h.class
    → section_in h f i ≡ None
section_outside h f i l = grind (arith, common_steps, l)

pub section_inside : (h : FileHeader) (f : List ℕ) (i : ℕ) → header_place h i + section_header_size h.class ≤ length f
    → section_in h f i ≡ Some (section_header h f i)
section_inside h f i l = grind (arith, common_steps, l)

some : (class : Class) → 1 ≤ section_header_size class
some Bits32 = omega arith
some Bits64 = omega arith

-- as many bytes are there as a header has
pub section_shown : (h : FileHeader) (i at size : ℕ) (bytes f : List ℕ) → at ≡ header_place h i
    → size ≡ section_header_size h.class → length bytes ≡ size → bytes ≡ take size (drop at f)
    → Some (section_fields h.class h.order bytes) ≡ section_in h f i
section_shown h i at size bytes f place is len cut =
    let whole : size ≡ length (take size (drop at f)) = sym len ∙ ap length cut in
    let inside : header_place h i + section_header_size h.class ≤ length f =
    rw (← place, ← is) (omega (arith, whole, is, some h.class, length-take size (drop at f), length-drop at f)) in
    let front : bytes ≡ take (section_header_size h.class) (drop (header_place h i) f) = rw (← place, ← is) cut in
    ap (λ b. Some (section_fields h.class h.order b)) front ∙ sym (section_inside h f i inside)

-- fewer are
pub section_cut : (h : FileHeader) (i at size n : ℕ) (bytes f : List ℕ) → at ≡ header_place h i
    → size ≡ section_header_size h.class → n < size → length bytes ≡ n → bytes ≡ take size (drop at f)
    → ◌≡◌ {A = Option SectionHeader} None (section_in h f i)
section_cut h i at size n bytes f place is less len cut =
    let part : n ≡ length (take size (drop at f)) = sym len ∙ ap length cut in
    let past : length f < header_place h i + section_header_size h.class =
    rw (← place, ← is) (omega (arith, part, less, length-take size (drop at f), length-drop at f)) in
    sym (section_outside h f i past)

-- past what an offset can say
pub no_section_past : (known : Option (List ℕ)) (h : FileHeader) (i : ℕ) → 2 ^ 64 ≤ header_place h i
    → ForBytes known (λ f. ◌≡◌ {A = Option SectionHeader} None (section_in h f i))
no_section_past known h i p = λ f is l. sym (section_outside h f i (omega (arith, p, l)))
