use Rattle.dl_sections.proofs.OneAnswers.{one_found, one_finding}
use Rattle.dl_sections.proofs.laws.one_finding.Goals as goal

pub returns-clause-answer : goal.returns-clause-answer
returns-clause-answer c = one_finding

pub returns-clause-row : goal.returns-clause-row
returns-clause-row c = one_found
