use Rattle.std.proofs.Common.{length}
use Rattle.std.specs.Prelude.{⊤}
use Rattle.dl_follow.specs.Left.{left}
use Rattle.dl_follow.proofs.told.write_passed.Given as goal

abbrev pub invariant-loop-candidate : goal.invariant-loop-candidate
invariant-loop-candidate g l = ⊤

abbrev pub decreases-loop-candidate : goal.decreases-loop-candidate
decreases-loop-candidate g l = length (left l.candidates)
