use Rattle.dl_emit.proofs.ReadAgain.{unit_is_read_again}
use Rattle.dl_emit.proofs.laws.unit_is_read_again.Goals as goal

pub returns : goal.returns
returns c = unit_is_read_again
