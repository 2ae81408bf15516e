-- What a reader that is inside an operation stands for. No promise rests on how this is said.
use Rattle.std.specs.Prelude.{◌≡◌, ◌≢◌, false, ℕ, ◌+◌, ◌-◌, ◌^◌, ◌<◌, ◌≤◌, List, [], ◌∷◌, ◌++◌, length, slice_index, Ok}
use Rattle.std.specs.Prelude.{Err}
use Rattle.dl_num.specs.declared.fixed.Order.{Order}
use Rattle.dl_num.specs.Front.{SpellsNowhere, SpellsFirst}
use Rattle.dl_num.specs.Leb.{AllContinue, IsUleb}
use Rattle.dl_num.specs.LebReader.{UlebTook, SlebTook}
use Rattle.dl_num.specs.NumberBytes.{number_size, number_bytes}
use Rattle.dl_field.specs.declared.params.Params.{Params}
use Rattle.dl_rows.specs.declared.operation_state.OperationState.{OperationState}
use Rattle.dl_rows.specs.declared.operation_state.OperationState.TheVariants as phase
use Rattle.dl_rows.specs.declared.operation_state.OperationStep.{OperationStep}
use Rattle.dl_rows.specs.declared.operation_state.OperationStep.TheVariants as step
use Rattle.dl_rows.specs.declared.operation_state.UnsignedOpcode.{UnsignedOpcode}
use Rattle.dl_rows.specs.declared.operation_state.UnsignedOpcode.TheVariants as unsigned
use Rattle.dl_rows.specs.declared.operation.Operation.{Operation}
use Rattle.dl_rows.specs.declared.operation.Operation.TheVariants as op
use Rattle.dl_rows.specs.OperationSpelt.{are_lebs, operation_spelt}

abbrev pub opcode_of : UnsignedOpcode → ℕ
opcode_of unsigned.AdvancePc = 2
opcode_of unsigned.SetFile = 4
opcode_of unsigned.SetColumn = 5
opcode_of unsigned.SetIsa = 12

-- the operation with its operand
abbrev pub operation_of : UnsignedOpcode → ℕ → Operation
operation_of unsigned.AdvancePc n = op.AdvancePc n
operation_of unsigned.SetFile n = op.SetFile n
operation_of unsigned.SetColumn n = op.SetColumn n
operation_of unsigned.SetIsa n = op.SetIsa n

abbrev pub HasNoUnsigned : ℕ → Type 0
HasNoUnsigned opcode = (opcode ≢ 2) × (opcode ≢ 4) × (opcode ≢ 5) × (opcode ≢ 12)

-- an opcode below opcode_base that isn't one without an operand
abbrev pub HasOperand : Params → ℕ → Type 0
HasOperand h opcode =
    (opcode < h.opcode_base) × (opcode ≢ 1) × (opcode ≢ 6) × (opcode ≢ 7) × (opcode ≢ 8) × (opcode ≢ 10) × (opcode ≢ 11)

-- w is some of count numbers in LEB128, and the front of one; left of them lack their end
pub record LebsLeft (count : ℕ) (w : List ℕ) (left : ℕ) : Type 0 where
  pub some : 1 ≤ left
  pub begun : List ℕ
  pub continue : AllContinue begun
  pub same : (x : List ℕ) → are_lebs count (w ++ x) ≡ are_lebs left (begun ++ x)
  pub nowhere : (front : List ℕ) (back : List ℕ) → w ≡ front ++ back → are_lebs count front ≡ false

-- w spells the length n of an extended opcode
abbrev pub HasLength : List ℕ → ℕ → Type 0
HasLength w n = IsUleb w n × (1 ≤ n) × (n < 2 ^ 64)

-- the bytes of the operation that have come are v
abbrev pub PhaseStands : Params → OperationState → List ℕ → Type 0
PhaseStands h phase.Start v = v ≡ []
PhaseStands h (phase.Unsigned o number) v =
    (opcode_of o < h.opcode_base) × ((w : List ℕ) × (v ≡ opcode_of o ∷ w) × UlebTook number w)
PhaseStands h (phase.Line number) v = (3 < h.opcode_base) × ((w : List ℕ) × (v ≡ 3 ∷ w) × SlebTook number w)
PhaseStands h (phase.FixedAdd number) v = (9 < h.opcode_base) × (v ≡ 9 ∷ number_bytes number) × (number_size number ≡ 2)
PhaseStands h (phase.Skipped left) v =
    (opcode : ℕ) × (12 < opcode) × (opcode < h.opcode_base)
    × ((w : List ℕ) × (v ≡ opcode ∷ w) × LebsLeft (slice_index h.lengths.items (opcode - 1)) w left)
PhaseStands h (phase.Length number) v = (1 ≤ h.opcode_base) × ((w : List ℕ) × (v ≡ 0 ∷ w) × UlebTook number w)
PhaseStands h (phase.Extended n) v = (1 ≤ h.opcode_base) × ((w : List ℕ) × (v ≡ 0 ∷ w) × HasLength w n)
PhaseStands h (phase.Address number) v =
    (1 ≤ h.opcode_base) × ((w : List ℕ) × (v ≡ 0 ∷ (w ++ 2 ∷ number_bytes number)) × HasLength w (1 + h.address_size)
    × (number_size number ≡ h.address_size))
PhaseStands h (phase.Discriminator left number) v =
    (1 ≤ h.opcode_base) × (1 ≤ left)
    × ((w operand : List ℕ) × (v ≡ 0 ∷ (w ++ 4 ∷ operand)) × HasLength w (1 + length operand + left)
    × UlebTook number operand)
PhaseStands h (phase.Rest left) v =
    (1 ≤ h.opcode_base) × (1 ≤ left)
    × ((w : List ℕ) × (opcode : ℕ) × (operand : List ℕ) × (v ≡ 0 ∷ (w ++ opcode ∷ operand))
    × (opcode ≢ 1) × (opcode ≢ 2) × (opcode ≢ 4) × HasLength w (1 + length operand + left))

-- what bytes after v make of the operation
abbrev pub StepIs : Order → Params → List ℕ → List ℕ → OperationStep → Type 0
StepIs order h v bytes (step.Within p) =
    PhaseStands h p (v ++ bytes) × SpellsNowhere (operation_spelt order h) (v ++ bytes)
StepIs order h v bytes (step.Ends o tail) =
    (front : List ℕ) × (bytes ≡ front ++ tail.now) × SpellsFirst (operation_spelt order h) (v ++ front) (Ok o)
StepIs order h v bytes (step.Refuses k tail) =
    (front : List ℕ) × (bytes ≡ front ++ tail.now) × SpellsFirst (operation_spelt order h) (v ++ front) (Err k)
