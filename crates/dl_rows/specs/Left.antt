-- How many bytes are left after a step. No promise rests on this file.
use Rattle.std.specs.Prelude.{ℕ, ◌+◌, ◌≤◌, length}
use Rattle.dl_rows.specs.declared.operation.Operation.{Operation}
use Rattle.dl_rows.specs.declared.operation.Operation.TheVariants as op
use Rattle.dl_rows.specs.declared.operation_state.OperationState.{OperationState}
use Rattle.dl_rows.specs.declared.operation_state.OperationState.TheVariants as phase
use Rattle.dl_rows.specs.declared.operation_state.OperationStep.{OperationStep}
use Rattle.dl_rows.specs.declared.operation_state.OperationStep.TheVariants as step
use Rattle.dl_rows.specs.declared.program.ProgramStep.{ProgramStep}
use Rattle.dl_rows.specs.declared.program.ProgramStep.TheVariants as given
use Rattle.dl_rows.specs.declared.program.Taken.{Taken}
use Rattle.dl_rows.specs.declared.program.Taken.TheVariants as taken

-- 1 where the operation appends a row, else 0
abbrev pub rows_of : Operation → ℕ
rows_of (op.Special b) = 1
rows_of op.Copy = 1
rows_of op.EndSequence = 1
rows_of other = 0

-- at most n bytes are left, and fewer where a row is appended
abbrev pub Leaves : ℕ → OperationStep → Type 0
Leaves n (step.Within p) = Unit {0}
Leaves n (step.Ends o tail) = length tail.now + rows_of o ≤ n
Leaves n (step.Refuses k tail) = length tail.now ≤ n

-- fewer than n bytes are left
abbrev pub LeavesFewer : ℕ → OperationStep → Type 0
LeavesFewer n (step.Ends o tail) = length tail.now + 1 ≤ n
LeavesFewer n other = Unit {0}

abbrev pub GivenLeaves : ℕ → ProgramStep → Type 0
GivenLeaves n given.Nothing = Unit {0}
GivenLeaves n (given.Row r tail) = length tail.now + 1 ≤ n
GivenLeaves n (given.Refuses k tail) = length tail.now ≤ n

abbrev pub TakenLeaves : ℕ → Taken → Type 0
TakenLeaves n (taken.UpTo tail) = length tail.now ≤ n
TakenLeaves n (taken.Row r tail) = length tail.now + 1 ≤ n

-- 0 between operations, else 1
abbrev pub inside : OperationState → ℕ
inside phase.Start = 0
inside other = 1
