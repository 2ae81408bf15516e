-- What the states of a reader of a unit stand for. No promise rests on how this is said.
use Rattle.std.specs.Prelude.{◌≡◌, ◌-◌, ◌^◌, ℕ, Bool, true, false, List, ◌++◌, length, min, Some, None}
use Rattle.dl_head.specs.declared.dialect.Dialect.{Dialect}
use Rattle.dl_num.specs.Laws.{AllBytes}
use Rattle.dl_table.specs.declared.fault.FaultKind.{FaultKind}
use Rattle.dl_head.specs.declared.reader.HeadReader.{HeadReader}
use Rattle.dl_head.specs.declared.reader.HeadStep.TheVariants as answer
use Rattle.dl_head.specs.Cells.{cells}
use Rattle.dl_field.specs.HeaderData.{HeaderData}
use Rattle.dl_head.specs.declared.header.HeaderLengths.{HeaderLengths}
use Rattle.dl_head.specs.Header.{IsHeader, header_in, lengths_in, unit_len}
use Rattle.dl_rows.specs.declared.unit_body.BodyState.{BodyState}
use Rattle.dl_head.specs.Reading.{Answers}
use Rattle.dl_head.specs.Standing.{StandsFor as HeadStands}
use Rattle.dl_rows.specs.declared.reader.HeaderStop.{HeaderStop}
use Rattle.dl_rows.specs.declared.reader.UnitStage.{UnitStage}
use Rattle.dl_rows.specs.declared.reader.UnitStage.TheVariants as state
use Rattle.dl_rows.specs.Reading.{WithinUnit}
use Rattle.dl_rows.specs.Refusal.{Refused}
use Rattle.dl_rows.specs.UnitBodies.{InForeign, BodyStands, taken_in_body}

-- the header isn't complete, and no foreign version is
pub record InHeader (dialect : Dialect) (head : HeadReader) (b : List ℕ) : Type 0 where
  pub same_dialect : head.dialect ≡ dialect
  pub stands : HeadStands head b
  pub more : Answers dialect b answer.More
  pub bytes : AllBytes b
  pub incomplete : header_in dialect b ≡ None
  pub sound : (front back : List ℕ) (at : ℕ) (kind : FaultKind) → b ≡ front ++ back → Refused dialect front at kind → ⊥

-- a fault was answered in the header, at the last byte of b
pub record StoppedInHeader (dialect : Dialect) (stop : HeaderStop) (b : List ℕ) : Type 0 where
  pub refused : Refused dialect b stop.fault.offset stop.fault.kind
  pub taken : stop.taken ≡ length b
  pub len : stop.unit_len ≡ unit_len dialect b
  pub in_unit : WithinUnit dialect b
  pub incomplete : header_in dialect b ≡ None
  pub cells : stop.cells ≡ min (cells dialect b) (2 ^ 64 - 1)

-- the reader has taken b, which begins with the header h; the lengths are those of the unit and of h
pub record StandsAfter (dialect : Dialect) (h : HeaderData) (lengths : HeaderLengths) (body : BodyState) (b : List ℕ)
    : Type 0 where
  pub in_body : BodyStands dialect h body b
  pub lengths_are : lengths ≡ lengths_in dialect b h

-- in this state a reader has taken the bytes b
abbrev pub StandsAt : Dialect → UnitStage → List ℕ → Type 0
StandsAt dialect (state.InHeader head) b = InHeader dialect head b
StandsAt dialect (state.StoppedInHeader stop) b = StoppedInHeader dialect stop b
StandsAt dialect (state.Foreign bytes) b = (version : ℕ) × InForeign dialect version bytes b
StandsAt dialect (state.AfterHeader h lengths body) b = StandsAfter dialect h lengths body b

-- how many bytes were taken
abbrev pub taken_in : UnitStage → ℕ
taken_in (state.InHeader head) = head.taken
taken_in (state.StoppedInHeader stop) = stop.taken
taken_in (state.Foreign bytes) = bytes.taken
taken_in (state.AfterHeader h lengths body) = taken_in_body body

abbrev pub is_in_header : UnitStage → Bool
is_in_header (state.InHeader head) = true
is_in_header other = false

-- a reader of the header has taken some bytes, after which the header goes on
abbrev pub GoesOn : HeadReader → Type 0
GoesOn head = (b : List ℕ) × HeadStands head b × Answers head.dialect b answer.More

abbrev pub IsBegun : UnitStage → Type 0
IsBegun (state.InHeader head) = GoesOn head
IsBegun other = Unit {0}

-- it has taken bytes that say how long the unit is
abbrev pub KnowsLength : HeadReader → Type 0
KnowsLength head = (b : List ℕ) × HeadStands head b × ((n : ℕ) × (unit_len head.dialect b ≡ Some n))

-- it has taken a header
abbrev pub HasHeader : HeadReader → Type 0
HasHeader head = (b : List ℕ) × HeadStands head b × ((h : HeaderData) × IsHeader head.dialect h b)
