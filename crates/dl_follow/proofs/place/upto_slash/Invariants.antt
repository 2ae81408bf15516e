use Rattle.std.proofs.Common.{◌≡◌, ◌≤◌, length}
use Rattle.dl_follow.specs.Places.{upto_slash}
use Rattle.dl_follow.proofs.place.upto_slash.Given as goal

abbrev pub invariant-loop-len : goal.invariant-loop-len
invariant-loop-len l = (l.len ≤ length l.path) × (upto_slash (length l.path) l.path ≡ upto_slash l.len l.path)

abbrev pub decreases-loop-len : goal.decreases-loop-len
decreases-loop-len l = l.len
