-- What the calls answer of the unit that begins at an offset of a section. t: the bytes of the section from the offset
-- on. DWARF 5, section 6.2.4; initial lengths are of section 7.4.
use Rattle.std.specs.Prelude.{◌≡◌, ℕ, ◌+◌, ◌-◌, ◌^◌, Bool, cond, nat_eq, List, [], ◌∷◌, ◌++◌, length, map, min, take}
use Rattle.std.specs.Prelude.{drop, Some, Err}
use Rattle.std.specs.List.{starts_with}
use Rattle.std.specs.Option.{option_map_or, unwrap_or}
use Rattle.dl_head.specs.declared.dialect.Dialect.{Dialect}
use Rattle.dl_table.specs.declared.fault.FaultKind.{FaultKind}
use Rattle.dl_head.specs.Header.{foreign_in}
use Rattle.dl_rows.specs.LineUnit.{unit_rows}
use Rattle.dl_sections.specs.declared.fault.RunFault.{RunFault}
use Rattle.dl_sections.specs.declared.fault.RunFault.TheVariants as run
use Rattle.dl_sections.specs.Section.{HasUnits, EndsAs, header_of}
use Rattle.dl_buffers.specs.declared.record.FaultRecord.{FaultRecord}
use Rattle.dl_buffers.specs.declared.record.RowRecord.{RowRecord}
use Rattle.dl_buffers.specs.declared.record.UnitRecord.{UnitRecord}
use Rattle.dl_buffers.specs.declared.status.Status.{Status}
use Rattle.dl_buffers.specs.declared.status.Status.TheVariants as status
use Rattle.dl_buffers.specs.Records.{record_of, row_record}

-- t begins with the unit u
abbrev pub BeginsWith : Dialect → (t u : List ℕ) → Type 0
BeginsWith dialect t u = (back : List ℕ) × HasUnits dialect t (u ∷ []) back

-- the reading of the unit that t begins with ends in b, a front of t
abbrev pub StopsIn : Dialect → (t b : List ℕ) → RunFault → Type 0
StopsIn dialect t b f = (back : List ℕ) × EndsAs dialect (length t) t (Some []) [] b back (Err f)

-- the first four bytes of a unit of the 64-bit DWARF format
abbrev pub is_dwarf64 : (u : List ℕ) → Bool
is_dwarf64 u = starts_with nat_eq u (255 ∷ 255 ∷ 255 ∷ 255 ∷ [])

-- the unit u at an offset
abbrev pub unit_record : Dialect → (offset : ℕ) (u : List ℕ) → UnitRecord
unit_record dialect offset u = record {
  offset = offset;
  length = length u;
  rows = length (unit_rows dialect u);
  directories = option_map_or (λ h. length h.directories.entries) (header_of dialect u) 0;
  files = option_map_or (λ h. length h.files.entries) (header_of dialect u) 0;
  version = option_map_or (λ h. h.params.version) (header_of dialect u) (unwrap_or (foreign_in dialect u) 0);
  address_size = option_map_or (λ h. h.params.address_size) (header_of dialect u) 0;
  is_dwarf64 = cond (is_dwarf64 u) 1 0;
}

-- `unit_at`: of a unit and a fault, p and f before it, and q and g after it, only what the status says is written
abbrev pub Describes : Dialect → (t : List ℕ) (offset : ℕ) (p q : UnitRecord) (f g : FaultRecord) → Status → Type 0
Describes dialect t offset p q f g status.Done =
    (u : List ℕ) × BeginsWith dialect t u × (q ≡ unit_record dialect offset u) × (g ≡ f)
Describes dialect t offset p q f g status.NoAnswer = (t ≡ []) × (q ≡ p) × (g ≡ f)
Describes dialect t offset p q f g status.Fault =
    (b : List ℕ) × (at : ℕ) × (kind : FaultKind) × StopsIn dialect t b (run.Damage at kind)
    × (q ≡ p) × (g ≡ record_of (offset + at) kind)
Describes dialect t offset p q f g status.NoMemory =
    (b : List ℕ) × StopsIn dialect t b run.NoMemory × (q ≡ p) × (g ≡ f)
Describes dialect t offset p q f g other = ⊥

-- what stands in a room that held `old`, where `new` is written into it as far as it has room
abbrev pub written_over : {A : Type 0} (old new : List A) → List A
written_over old new = take (length old) new ++ drop (length new) old

-- how many bytes a text has, as a number of 64 bits tells it
abbrev pub length_told : (text : List ℕ) → ℕ
length_told text = min (length text) (2 ^ 64 - 1)

-- `rows_at`: of a room for rows, a count and a fault, p, m and f before it, and q, n and g after it, only what the
-- status says is written
abbrev pub Lists : Dialect → (t : List ℕ) (offset : ℕ) (p q : List RowRecord) (m n : ℕ) (f g : FaultRecord) → Status
    → Type 0
Lists dialect t offset p q m n f g status.Done =
    (u : List ℕ) × BeginsWith dialect t u × (q ≡ written_over p (map row_record (unit_rows dialect u)))
    × (n ≡ length (unit_rows dialect u)) × (g ≡ f)
Lists dialect t offset p q m n f g status.NoAnswer = (t ≡ []) × (q ≡ p) × (n ≡ m) × (g ≡ f)
Lists dialect t offset p q m n f g status.Fault =
    (b : List ℕ) × (at : ℕ) × (kind : FaultKind) × StopsIn dialect t b (run.Damage at kind)
    × (q ≡ written_over p (map row_record (unit_rows dialect b))) × (n ≡ length (unit_rows dialect b))
    × (g ≡ record_of (offset + at) kind)
Lists dialect t offset p q m n f g status.NoMemory =
    (b : List ℕ) × StopsIn dialect t b run.NoMemory × (q ≡ p) × (n ≡ m) × (g ≡ f)
Lists dialect t offset p q m n f g other = ⊥
