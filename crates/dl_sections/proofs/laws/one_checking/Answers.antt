use Rattle.dl_sections.proofs.OneAnswers.{one_checking}
use Rattle.dl_sections.proofs.laws.one_checking.Goals as goal

pub returns : goal.returns
returns c = one_checking
