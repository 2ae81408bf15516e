use Rattle.dl_sections.proofs.SectionCuts.{one_end}
use Rattle.dl_sections.proofs.laws.one_end.Goals as goal

pub returns : goal.returns
returns c = one_end
