use Rattle.dl_stretch.proofs.StretchLemmas.{one_list}
use Rattle.dl_stretch.proofs.laws.one_list_of_stretches.Goals as goal

pub returns : goal.returns
returns c = one_list
