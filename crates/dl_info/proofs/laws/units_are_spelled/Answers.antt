use Rattle.dl_info.proofs.GrammarEntries.{entry_is_spelled, length_is_spelled, one_entry}
use Rattle.dl_info.proofs.laws.units_are_spelled.Goals as goal

pub returns-clause-length : goal.returns-clause-length
returns-clause-length c = length_is_spelled

pub returns-clause-entry : goal.returns-clause-entry
returns-clause-entry c = entry_is_spelled

pub returns-clause-one : goal.returns-clause-one
returns-clause-one c = one_entry
