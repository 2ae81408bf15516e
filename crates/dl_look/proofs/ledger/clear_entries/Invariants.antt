use Rattle.std.proofs.Common.{◌+◌}
use Rattle.dl_look.proofs.ForgetLemmas.{Cleared}
use Rattle.dl_look.proofs.ledger.clear_entries.Given as goal

abbrev pub invariant-loop-answered : goal.invariant-loop-answered
invariant-loop-answered l = Cleared l.fn.entries.items l.entries.items l.whole (l.whole + l.answered-index)
