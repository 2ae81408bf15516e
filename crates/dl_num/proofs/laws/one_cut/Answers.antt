use Rattle.dl_num.proofs.FrontLemmas.{one_cut}
use Rattle.dl_num.proofs.laws.one_cut.Goals as goal

pub returns : goal.returns
returns g c = one_cut _
