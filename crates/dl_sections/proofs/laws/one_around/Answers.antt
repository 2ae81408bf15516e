use Rattle.dl_sections.proofs.AroundLaws.{one_around, one_cut_around}
use Rattle.dl_sections.proofs.laws.one_around.Goals as goal

pub returns-clause-cut : goal.returns-clause-cut
returns-clause-cut c = one_cut_around

pub returns-clause-end : goal.returns-clause-end
returns-clause-end c = one_around
