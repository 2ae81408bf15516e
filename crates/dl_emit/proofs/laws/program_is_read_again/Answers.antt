use Rattle.dl_emit.proofs.ReadAgain.{program_is_read_again}
use Rattle.dl_emit.proofs.laws.program_is_read_again.Goals as goal

pub returns : goal.returns
returns c = program_is_read_again
