-- Where a unit is refused while its header is read, and why. Places count from its first byte. DWARF 5, section 6.2.4.
use Rattle.std.specs.Prelude.{◌≡◌, ℕ, ◌+◌, ◌-◌, List, [], ◌∷◌, ◌++◌, length, Option, Some, None, Ok, Err, ◌==◌}
use Rattle.std.specs.Prelude.{if◌then◌else◌}
use Rattle.dl_head.specs.declared.dialect.Dialect.{Dialect}
use Rattle.dl_table.specs.declared.fault.FaultKind.{FaultKind}
use Rattle.dl_table.specs.declared.fault.FaultKind.TheVariants as fault
use Rattle.dl_table.specs.Value.{Judgement}
use Rattle.dl_field.specs.Layout.{Layout, last_entry, foreign_version, Item, following_all, field_spelt}
use Rattle.dl_head.specs.HeaderLayout.{header_layout}
use Rattle.dl_head.specs.Header.{Cut, cut, unit_end, header_end}

-- the first of two, if there is one, else the second
abbrev pub or_else : {A : Type 0} → Option A → Option A → Option A
or_else (Some a) o = Some a
or_else None o = o

-- the fault of a bad field that ends with the last byte
abbrev pub bad_kind : {A : Type 0} → Judgement A → Option FaultKind
bad_kind (Some (Err kind)) = Some kind
bad_kind (Some (Ok a)) = None
bad_kind None = None

-- the kind, where n bytes are all that there are
abbrev pub at_end : FaultKind → ℕ → Option ℕ → Option FaultKind
at_end kind n None = None
at_end kind n (Some end) = if n == end then Some kind else None

-- a field is incomplete at the last byte of the header, or as long as header_length isn't read at that of the unit
abbrev pub field_overrun : ℕ → List Item → Option ℕ → Option FaultKind
field_overrun n items (Some end) = at_end fault.HeaderOverrun n (Some end)
field_overrun n items None = at_end fault.UnitOverrun n (unit_end items)

-- by what stands next: the fields may be complete, and those of a foreign unit aren't read
abbrev pub header_overrun : ℕ → List Item → Layout → Option FaultKind
header_overrun n items (last_entry h) = None
header_overrun n items (foreign_version v) = None
header_overrun n items layout = field_overrun n items (header_end items)

-- what the last of n bytes decides, the fields at their front being cut off; an overrun counts last
abbrev pub cut_decided : Dialect → ℕ → Cut → Option FaultKind
cut_decided dialect n c =
    let next = following_all (header_layout dialect) c.items in
    or_else (bad_kind (field_spelt dialect.order next c.rest)) (header_overrun n c.items next)

-- the kind that the last byte of b decides
abbrev pub header_decided : Dialect → List ℕ → Option FaultKind
header_decided dialect b = cut_decided dialect (length b) (cut dialect b)

-- nothing shorter than b decides anything
abbrev pub NothingBefore : (List ℕ → Option FaultKind) → List ℕ → Type 0
NothingBefore decided b = (front : List ℕ) (x : ℕ) (back : List ℕ) → b ≡ front ++ x ∷ back → decided front ≡ None

-- b, a front of a unit, is refused in its header: its last byte decides the kind, nothing shorter decides anything, and
-- the good fields end at the place
pub record HeaderRefused (dialect : Dialect) (b : List ℕ) (at : ℕ) (kind : FaultKind) : Type 0 where
  pub place : at + length (cut dialect b).rest ≡ length b
  pub decided : header_decided dialect b ≡ Some kind
  pub shortest : NothingBefore (header_decided dialect) b

-- bytes that were refused, the place and the kind
pub record Refusal : Type 0 where
  pub front : List ℕ
  pub at : ℕ
  pub kind : FaultKind

-- the first front that decides anything; begun: bytes before b, no shorter front of which does
abbrev pub first_decided : (List ℕ → Option FaultKind) → List ℕ → List ℕ → Option (List ℕ × FaultKind)
first_decided decided begun [] = elim (decided begun) [ Some kind ↦ Some (begun, kind) | None ↦ None ]
first_decided decided begun (x ∷ b) =
    elim (decided begun) [ Some kind ↦ Some (begun, kind) | None ↦ first_decided decided (begun ++ x ∷ []) b ]

abbrev pub refusal_of : Dialect → Option (List ℕ × FaultKind) → Option Refusal
refusal_of dialect None = None
refusal_of dialect (Some found) = Some
    (record { front = found.0; at = length found.0 - length (cut dialect found.0).rest; kind = found.1 })

-- the front of b that is refused in its header, computed
abbrev pub header_refusal_in : Dialect → List ℕ → Option Refusal
header_refusal_in dialect b = refusal_of dialect (first_decided (header_decided dialect) [] b)
