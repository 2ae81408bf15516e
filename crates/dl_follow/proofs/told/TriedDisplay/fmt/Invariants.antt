-- The paths so far were written, at most three.
use Rattle.std.proofs.Common.{◌≡◌, ◌≤◌, ℕ, List, ◌++◌, length}
use Rattle.std.specs.Fmt.{HasWritten, IsPlainFormatter}
use Rattle.dl_follow.specs.Left.{left}
use Rattle.dl_follow.specs.NotFoundText.{listed, tried}
use Rattle.dl_follow.proofs.told.TriedDisplay.fmt.Given as goal

abbrev pub invariant-loop-path : goal.invariant-loop-path
invariant-loop-path g l = (done : List (List ℕ)) × (tried (left l.self.0) ≡ done ++ tried (left l.candidates))
    × (length done ≡ l.told) × (l.told ≤ 3)
    × (IsPlainFormatter l.fn.f → HasWritten g.W.Write.write_str_gives l.fn.f (listed done) l.f)

abbrev pub decreases-loop-path : goal.decreases-loop-path
decreases-loop-path g l = length (tried (left l.candidates))
