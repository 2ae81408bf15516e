-- The same paths are left to be tried.
use Rattle.std.proofs.Common.{◌≡◌, length}
use Rattle.dl_follow.specs.Left.{left}
use Rattle.dl_follow.specs.NotFoundText.{tried}
use Rattle.dl_follow.proofs.told.next_path.Given as goal

abbrev pub invariant-loop-candidate : goal.invariant-loop-candidate
invariant-loop-candidate l = tried (left l.fn.candidates) ≡ tried (left l.candidates)

abbrev pub decreases-loop-candidate : goal.decreases-loop-candidate
decreases-loop-candidate l = length (left l.candidates)
