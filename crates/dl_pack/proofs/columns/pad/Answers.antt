use Rattle.std.proofs.Common.{arith}
use Rattle.dl_memory.proofs.RefusalLemmas.{wants_fewer}
use Rattle.dl_pack.proofs.columns.pad.Goals as goal

pub returns-in_err-put_zeros-clause-refused : goal.returns-in_err-put_zeros-clause-refused
returns-in_err-put_zeros-clause-refused g c = wants_fewer _ _ _ _ (omega arith) c.in_err-put_zeros.ensures.refused
