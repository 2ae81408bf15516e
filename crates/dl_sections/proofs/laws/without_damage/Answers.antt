use Rattle.dl_sections.proofs.AroundLaws.{nothing_damaged, without_damage}
use Rattle.dl_sections.proofs.laws.without_damage.Goals as goal

pub returns-clause-around : goal.returns-clause-around
returns-clause-around c = without_damage

pub returns-clause-units : goal.returns-clause-units
returns-clause-units c = nothing_damaged
