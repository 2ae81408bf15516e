use Rattle.dl_num.proofs.ShortestLemmas.{computed_is_shortest, computed_sleb_is_shortest}
use Rattle.dl_num.proofs.laws.shortest_is_computed.Goals as goal

pub returns : goal.returns
returns c = record { unsigned = computed_is_shortest; signed = computed_sleb_is_shortest }
