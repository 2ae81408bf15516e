use Rattle.std.proofs.Common.{◌≤◌, length}
use Rattle.dl_table_rules.proofs.TextLemmas.{NoneFrom}
use Rattle.dl_table_rules.proofs.text_ends.texts_end.Given as goal

abbrev pub invariant-loop-end : goal.invariant-loop-end
invariant-loop-end l = (l.end ≤ length l.section) × NoneFrom l.section l.end

abbrev pub decreases-loop-end : goal.decreases-loop-end
decreases-loop-end l = l.end
