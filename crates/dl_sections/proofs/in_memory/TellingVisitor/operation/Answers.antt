use Rattle.dl_rows.specs.Items.{an_operation}
use Rattle.dl_sections.specs.Section.{of_item}
use Rattle.dl_sections.proofs.TellingVisits.{told_on}
use Rattle.dl_sections.proofs.in_memory.TellingVisitor.operation.Goals as goal

pub returns-clause-heard : goal.returns-clause-heard
returns-clause-heard g c first start visits s = told_on s (of_item (an_operation c.args._header.now c.args._operation)) _ _ s.passed s.hears
