-- Which bytes a header reader has taken. No promise rests on how this is said.
use Rattle.std.specs.Prelude.{◌≡◌, ℕ, ◌+◌, ◌<◌, ◌≤◌, ◌≢◌, List, length, Option, Some, None}
use Rattle.dl_head.specs.declared.reader.Phase.{Phase}
use Rattle.dl_head.specs.declared.reader.Phase.TheVariants as phase
use Rattle.dl_head.specs.declared.reader.HeadReader.{HeadReader}
use Rattle.dl_head.specs.declared.reader.HeadStep.{HeadStep}
use Rattle.dl_head.specs.declared.reader.HeadStep.TheVariants as answer
use Rattle.dl_head.specs.declared.dialect.Dialect.{Dialect}
use Rattle.dl_head.specs.declared.fault.Fault.{Fault}
use Rattle.dl_table.specs.declared.fault.FaultKind.{FaultKind}
use Rattle.dl_field.specs.HeaderData.{HeaderData}
use Rattle.dl_field.specs.Layout.{Item, following_all, field_spelt}
use Rattle.dl_head.specs.HeaderLayout.{header_layout}
use Rattle.dl_head.specs.Header.{cut, unit_end, header_end, unit_len, IsHeader, foreign_in}
use Rattle.dl_head.specs.Refusal.{header_decided, HeaderRefused, NothingBefore}
use Rattle.dl_head.specs.Cells.{cells}
use Rattle.dl_head.specs.Place.{At, SameCounts, SameUnit, end_of_unit, held_cells}

-- n bytes end before the end, as far as that is known
abbrev pub Below : ℕ → Option ℕ → Type 0
Below n None = Unit {0}
Below n (Some end) = n < end

-- b is fields of these values, and the bytes rest of the next one, and nothing shorter decides anything
pub record IsRead (dialect : Dialect) (b : List ℕ) (items : List Item) (rest : List ℕ) : Type 0 where
  pub cut_is : cut dialect b ≡ record { items = items; rest = rest }
  pub unjudged : field_spelt dialect.order (following_all (header_layout dialect) items) rest ≡ None
  pub nothing_before : NothingBefore (header_decided dialect) b
  pub ends_within : (n e : ℕ) → unit_end items ≡ Some n → header_end items ≡ Some e → e ≤ n

-- the header goes on after b
pub record Live (r : HeadReader) (b : List ℕ) : Type 0 where
  pub items : List Item
  pub rest : List ℕ
  pub read : IsRead r.dialect b items rest
  pub at : At r items rest
  pub start_is : r.start + length rest ≡ length b
  pub below : Below (length b) r.end

-- there is no header yet, and the cells of b are held
pub record Unmade (r : HeadReader) (b : List ℕ) : Type 0 where
  pub header : r.header ≡ None
  pub cells_are : held_cells r ≡ cells r.dialect b

-- what the header has come to, if anything
abbrev pub ending : Phase → Option HeadStep
ending phase.Done = Some answer.Done
ending (phase.Foreign v) = Some (answer.Foreign v)
ending (phase.Failed f) = Some (answer.Fault f)
ending p = None

-- b is the header, and the padding begins where the reader says
pub record IsDone (r : HeadReader) (b : List ℕ) : Type 0 where
  pub h : HeaderData
  pub header : r.header ≡ Some h
  pub is : IsHeader r.dialect h b
  pub start_is : r.start + length (cut r.dialect b).rest ≡ length b

abbrev pub Stands : HeadReader → Option HeadStep → List ℕ → Type 0
Stands r None b = Live r b × Unmade r b
Stands r (Some answer.Done) b = IsDone r b
Stands r (Some (answer.Foreign v)) b = (foreign_in r.dialect b ≡ Some v) × Unmade r b
Stands r (Some (answer.Fault f)) b = HeaderRefused r.dialect b f.offset f.kind × Unmade r b
Stands r (Some other) b = ⊥

-- the unit's bytes, once they are known
abbrev pub unit_known : ℕ → Option ℕ → Option ℕ
unit_known unit None = None
unit_known unit (Some end) = Some unit

-- the reader has taken the bytes b
pub record StandsFor (r : HeadReader) (b : List ℕ) : Type 0 where
  pub stands : Stands r (ending r.phase) b
  pub taken : r.taken ≡ length b
  pub unit : unit_known (end_of_unit r) r.end ≡ unit_len r.dialect b
  pub within : (n : ℕ) → unit_len r.dialect b ≡ Some n → length b ≤ n

-- `fail`
abbrev pub failed_at : ℕ → FaultKind → Fault
failed_at start kind = record { offset = start; kind = kind }

-- the tables are kept
pub record SameTables (old new : HeadReader) : Type 0 where
  pub counts : SameCounts old new
  pub unit : SameUnit old new
  pub cells : held_cells new ≡ held_cells old

abbrev pub Fails : HeadReader → FaultKind → HeadStep → HeadReader → Type 0
Fails old kind result new = (result ≡ answer.Fault (failed_at old.start kind))
    × (new.phase ≡ phase.Failed (failed_at old.start kind)) × SameTables old new

-- `complete`
pub record Completes (old new : HeadReader) : Type 0 where
  pub phase : new.phase ≡ phase.Done
  pub header : new.header ≡ Some (record { params = old.params; directories = old.directories; files = old.files })
  pub dialect : new.dialect ≡ old.dialect
  pub taken : new.taken ≡ old.taken
  pub start : new.start ≡ old.start
  pub unit : SameUnit old new

-- `settle`, by the phase: where the bytes end, an end or a fault, else nothing
abbrev pub SettlesAt : HeadReader → Phase → HeadStep → HeadReader → Type 0
SettlesAt old (phase.Foreign v) result new = (result ≡ answer.Foreign v) × (new ≡ old)
SettlesAt old phase.Padding result new =
    (old.end ≢ Some old.taken → (result ≡ answer.More) × (new ≡ old))
    × (old.end ≡ Some old.taken → (result ≡ answer.Done) × Completes old new)
SettlesAt old p result new =
    (old.end ≢ Some old.taken → (result ≡ answer.More) × (new ≡ old))
    × (old.end ≡ Some old.taken → Fails old old.overrun result new)

abbrev pub Settles : HeadReader → HeadStep → HeadReader → Type 0
Settles old result new = SettlesAt old old.phase result new
