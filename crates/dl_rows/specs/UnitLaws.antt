-- Laws of the definitions of units and refusals. Each holds in every dialect, which is the same throughout a law.
use Rattle.dl_head.specs.declared.dialect.Dialect.{Dialect}
use Rattle.std.specs.Prelude.{◌^◌, ◌<◌, unsigned_abs, ◌⊎◌, ◌+◌, ◌≡◌, ℕ, ◌≤◌, ◌↔◌, List, [], ◌∷◌, ◌++◌, length, map}
use Rattle.std.specs.Prelude.{Some, None}
use Rattle.dl_num.specs.declared.fixed.Order.{Order}
use Rattle.dl_num.specs.Laws.{AllBytes}
use Rattle.dl_field.specs.Usable.{IsUsable}
use Rattle.dl_table.specs.declared.fault.FaultKind.{FaultKind}
use Rattle.dl_table.specs.declared.fault.FaultKind.TheVariants as fault
use Rattle.dl_field.specs.declared.params.Params.{Params}
use Rattle.dl_field.specs.HeaderData.{HeaderData}
use Rattle.dl_head.specs.Header.{IsHeader, header_in, unit_len}
use Rattle.dl_head.specs.Refusal.{HeaderRefused}
use Rattle.dl_rows.specs.declared.operation.Operation.{Operation}
use Rattle.dl_rows.specs.declared.reader.Event.TheVariants as event
use Rattle.dl_rows.specs.BadOperation.{IsBadOperation}
use Rattle.dl_rows.specs.Matrix.{matrix}
use Rattle.dl_rows.specs.Spelling.{SpellsOperation, SpellsProgram}
use Rattle.dl_rows.specs.LineUnit.{HasItsLength, IsForeignUnit, IsOwnUnit, IsUnit, unit_rows, events}
use Rattle.dl_rows.specs.Reading.{WithinUnit}
use Rattle.dl_rows.specs.Refusal.{Refused}

-- the params of a header are usable, and its line_base is one byte
abbrev pub HeaderFits : Type 0
HeaderFits =
    (dialect : Dialect) (h : HeaderData) (w : List ℕ) → AllBytes w → IsHeader dialect h w
    → IsUsable h.params × (unsigned_abs h.params.line_base < 2 ^ 62)

-- bytes are as long as their good initial length says exactly where the computed length is theirs
abbrev pub LengthIsComputed : Type 0
LengthIsComputed = (dialect : Dialect) (u : List ℕ) → HasItsLength dialect.order u
    ↔ (unit_len dialect u ≡ Some (length u))

-- no unit begins another
abbrev pub NoUnitBeginsAnother : Type 0
NoUnitBeginsAnother = (dialect : Dialect) (u v : List ℕ) → IsUnit dialect u → IsUnit dialect (u ++ v) → v ≡ []

-- what a unit comes to
abbrev pub ForeignComesTo : Type 0
ForeignComesTo =
    (dialect : Dialect) (version : ℕ) (u : List ℕ) → IsForeignUnit dialect version u
    → events dialect u ≡ event.Foreign version ∷ []

abbrev pub UnitComesTo : Type 0
UnitComesTo = (dialect : Dialect) (h : HeaderData) (p : List Operation) (u : List ℕ) → IsOwnUnit dialect h p u
    → events dialect u ≡ event.Header ∷ map event.Row (matrix h.params p)

-- of the fronts of a list one alone is refused, at one place, for one kind
abbrev pub OneRefusal : Type 0
OneRefusal = (dialect : Dialect) (b c v u : List ℕ) (at at2 : ℕ) (kind kind2 : FaultKind) → b ++ v ≡ c ++ u
    → Refused dialect b at kind → Refused dialect c at2 kind2 → (b ≡ c) × (at ≡ at2) × (kind ≡ kind2)

-- bytes without a whole header are refused where they are in their header
abbrev pub RefusedInHeader : Type 0
RefusedInHeader =
    (dialect : Dialect) (b : List ℕ) (at : ℕ) (kind : FaultKind) → header_in dialect b ≡ None
    → Refused dialect b at kind ↔ HeaderRefused dialect b at kind

-- w is no operation, and no bad one
abbrev pub IsIncomplete : Order → Params → List ℕ → Type 0
IsIncomplete order h w =
    ((o : Operation) → SpellsOperation order h o w → ⊥) × ((kind : FaultKind) → IsBadOperation h w kind → ⊥)

-- b ends in the unit's last bytes, begun, which are some, and incomplete
pub record IsCutShort (dialect : Dialect) (h : Params) (b begun : List ℕ) : Type 0 where
  pub last : unit_len dialect b ≡ Some (length b)
  pub some : 1 ≤ length begun
  pub incomplete : IsIncomplete dialect.order h begun

-- the program of b is operations, and then bytes of one that is bad or cut short, as no shorter front of them is
pub record RefusesOperation (dialect : Dialect) (h : Params) (b program : List ℕ) (at : ℕ)
    (kind : FaultKind) : Type 0 where
  pub operations : List Operation
  pub done : List ℕ
  pub begun : List ℕ
  pub whole : program ≡ done ++ begun
  pub spells : SpellsProgram dialect.order h operations done
  pub place : at + length begun ≡ length b
  pub shortest : (front : List ℕ) (x : ℕ) (back : List ℕ) → begun ≡ front ++ x ∷ back
      → IsIncomplete dialect.order h front
  pub fault : IsBadOperation h begun kind ⊎ (IsCutShort dialect h b begun × (kind ≡ fault.OpcodeOverrun))

-- where the header is complete, an operation is refused
abbrev pub RefusedInProgram : Type 0
RefusedInProgram =
    (dialect : Dialect) (b : List ℕ) (h : HeaderData) (program : List ℕ) (at : ℕ) (kind : FaultKind)
    → header_in dialect b ≡ Some (h, program)
    → Refused dialect b at kind → RefusesOperation dialect h.params b program at kind

-- and where one is, in bytes that are no longer than their unit, they are refused
abbrev pub OperationIsRefused : Type 0
OperationIsRefused =
    (dialect : Dialect) (b : List ℕ) (h : HeaderData) (program : List ℕ) (at : ℕ) (kind : FaultKind)
    → header_in dialect b ≡ Some (h, program) → WithinUnit dialect b
    → RefusesOperation dialect h.params b program at kind → Refused dialect b at kind

-- bytes as long as their good initial length says are a unit exactly where no front of them is refused
abbrev pub UnitUnlessRefused : Type 0
UnitUnlessRefused = (dialect : Dialect) (b : List ℕ) → unit_len dialect b ≡ Some (length b)
    → IsUnit dialect b ↔ ((front back : List ℕ) (at : ℕ) (kind : FaultKind) → b ≡ front ++ back
    → Refused dialect front at kind → ⊥)

-- at most one row for each byte of the program
abbrev pub RowForProgramByte : Type 0
RowForProgramByte =
    (dialect : Dialect) (b : List ℕ) (h : HeaderData) (program : List ℕ) → header_in dialect b ≡ Some (h, program)
    → length (unit_rows dialect b) ≤ length program
