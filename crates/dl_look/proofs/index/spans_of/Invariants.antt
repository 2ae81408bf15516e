use Rattle.std.proofs.Common.{take}
use Rattle.dl_look.proofs.SpansSoFar.{SoFar}
use Rattle.dl_look.proofs.index.spans_of.Given as goal

abbrev pub invariant-loop-i : goal.invariant-loop-i
invariant-loop-i g l = SoFar (take l.i l.rows) l.spans.items l.start l.run
