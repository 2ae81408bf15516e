use Rattle.dl_rows.proofs.UnitLengths.{length_is_computed, no_unit_begins_another}
use Rattle.dl_rows.proofs.laws.length_of_a_unit.Goals as goal

pub returns-clause-computed : goal.returns-clause-computed
returns-clause-computed c = length_is_computed

pub returns-clause-end : goal.returns-clause-end
returns-clause-end c = no_unit_begins_another
