use Rattle.std.proofs.Common.{◌≡◌, ◌+◌, drop}
use Rattle.dl_head.specs.Built.{wrong_length}
use Rattle.dl_head.proofs.header.wrong_length.Given as goal

abbrev pub invariant-loop-i : goal.invariant-loop-i
invariant-loop-i l = wrong_length 1 l.lengths ≡ wrong_length (l.i + 1) (drop l.i l.lengths)
