use Rattle.std.proofs.Common.{◌-◌}
use Rattle.dl_look.proofs.CutLemmas.{Covered}
use Rattle.dl_look.proofs.cuts.cover.Given as goal

abbrev pub invariant-loop-at : goal.invariant-loop-at
invariant-loop-at l = Covered l.fn.sequences.items l.sequences.items l.links l.low l.high l.at l.sequence

abbrev pub decreases-loop-at : goal.decreases-loop-at
decreases-loop-at l = l.high - l.at
