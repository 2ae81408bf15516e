use Rattle.dl_rows.proofs.UnitLaws.{foreign_comes_to, unit_comes_to}
use Rattle.dl_rows.proofs.laws.events_of_a_unit.Goals as goal

pub returns-clause-foreign : goal.returns-clause-foreign
returns-clause-foreign c = foreign_comes_to

pub returns-clause-own : goal.returns-clause-own
returns-clause-own c = unit_comes_to
