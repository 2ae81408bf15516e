use Rattle.dl_object.proofs.OneKeeping.{one_keeping}
use Rattle.dl_object.proofs.laws.one_keeping.Goals as goal

pub returns : goal.returns
returns c = one_keeping
