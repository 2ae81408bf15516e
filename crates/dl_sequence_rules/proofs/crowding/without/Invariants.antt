use Rattle.dl_sequence_rules.proofs.WithoutLemmas.{IsWithout}
use Rattle.dl_sequence_rules.proofs.crowding.without.Given as goal

abbrev pub invariant-loop-number : goal.invariant-loop-number
invariant-loop-number g l = IsWithout l.sequences l.alone l.number l.kept.items
