use Rattle.dl_sections.proofs.SectionGrowth.{more_is_told}
use Rattle.dl_sections.proofs.laws.more_is_told.Goals as goal

pub returns : goal.returns
returns c = more_is_told
