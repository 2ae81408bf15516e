use Rattle.std.proofs.Common.{ℕ, List, ◌++◌, take}
use Rattle.dl_field.specs.declared.params.Params.{Params}
use Rattle.dl_rows.specs.declared.operation_state.OperationState.TheVariants as phase
use Rattle.dl_rows.specs.Phases.{PhaseStands}
use Rattle.dl_rows.proofs.operation_state.discriminator.Given as goal

abbrev pub invariant-loop-i : goal.invariant-loop-i
invariant-loop-i l = (h : Params) (v : List ℕ) → PhaseStands h (phase.Discriminator l.fn.left l.fn.number) v
    → PhaseStands h (phase.Discriminator l.left l.number) (v ++ take l.i l.bytes)
