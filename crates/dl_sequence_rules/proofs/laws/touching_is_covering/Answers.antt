use Rattle.dl_sequence_rules.proofs.TouchLemmas.{touches_addresses}
use Rattle.dl_sequence_rules.proofs.laws.touching_is_covering.Goals as goal

pub returns : goal.returns
returns c = touches_addresses
