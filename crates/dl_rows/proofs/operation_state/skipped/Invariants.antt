use Rattle.std.proofs.Common.{ℕ, List, ◌++◌, take}
use Rattle.dl_rows.specs.Phases.{LebsLeft}
use Rattle.dl_rows.proofs.operation_state.skipped.Given as goal

abbrev pub invariant-loop-i : goal.invariant-loop-i
invariant-loop-i l =
    (count : ℕ) (w : List ℕ) → LebsLeft count w l.fn.left → LebsLeft count (w ++ take l.i l.bytes) l.left
