use Rattle.dl_sections.specs.Section.{of_open}
use Rattle.dl_sections.proofs.TellingVisits.{told_on}
use Rattle.dl_sections.proofs.in_memory.TellingVisitor.unterminated.Goals as goal

pub returns-clause-heard : goal.returns-clause-heard
returns-clause-heard g c first start visits s = told_on s of_open _ _ s.passed s.hears
