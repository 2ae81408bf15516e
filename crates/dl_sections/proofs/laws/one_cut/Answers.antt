use Rattle.dl_sections.proofs.SectionCuts.{one_cut}
use Rattle.dl_sections.proofs.laws.one_cut.Goals as goal

pub returns : goal.returns
returns c = one_cut
