use Rattle.dl_sections.proofs.OneAnswers.{one_passing_over}
use Rattle.dl_sections.proofs.laws.one_passing_over.Goals as goal

pub returns : goal.returns
returns c = one_passing_over
