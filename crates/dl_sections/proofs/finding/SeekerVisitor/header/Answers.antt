use Rattle.dl_sections.proofs.Names.{of_header, refl}
use Rattle.dl_sections.proofs.SeekerLemmas.{seeks_past}
use Rattle.dl_sections.proofs.finding.SeekerVisitor.header.Goals as goal

pub returns-clause-heard : goal.returns-clause-heard
returns-clause-heard g c first start visits s = seeks_past s (of_header c.args._offset c.args._lengths c.args._header.now) refl
