use Rattle.dl_head.proofs.HeaderLaws.{cut_is_computed}
use Rattle.dl_head.proofs.laws.one_field_cut.Goals as goal

pub returns : goal.returns
returns c = cut_is_computed
