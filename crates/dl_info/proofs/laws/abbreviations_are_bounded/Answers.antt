use Rattle.dl_info.proofs.BoundLemmas.{abbreviations_are_bounded, attributes_are_bounded}
use Rattle.dl_info.proofs.laws.abbreviations_are_bounded.Goals as goal

pub returns-clause-attributes : goal.returns-clause-attributes
returns-clause-attributes c = attributes_are_bounded

pub returns-clause-abbreviations : goal.returns-clause-abbreviations
returns-clause-abbreviations c = abbreviations_are_bounded
