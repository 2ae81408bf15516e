use Rattle.dl_sequence_rules.proofs.BothLemmas.{first_of_both_is, none_of_both_is}
use Rattle.dl_sequence_rules.proofs.laws.first_place_is_told.Goals as goal

pub returns : goal.returns
returns c = record { first = first_of_both_is; none = none_of_both_is }
