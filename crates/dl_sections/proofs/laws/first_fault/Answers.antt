use Rattle.dl_sections.proofs.AroundLaws.{first_fault, stops_at_first}
use Rattle.dl_sections.proofs.laws.first_fault.Goals as goal

pub returns-clause-first : goal.returns-clause-first
returns-clause-first c = first_fault

pub returns-clause-stops : goal.returns-clause-stops
returns-clause-stops c = stops_at_first
