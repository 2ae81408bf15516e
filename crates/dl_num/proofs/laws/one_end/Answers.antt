use Rattle.dl_num.proofs.StepLemmas.{one_end}
use Rattle.dl_num.proofs.laws.one_end.Goals as goal

pub returns : goal.returns
returns g c = one_end
