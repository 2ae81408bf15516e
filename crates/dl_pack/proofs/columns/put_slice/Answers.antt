use Rattle.std.proofs.Common.{arith}
use Rattle.dl_memory.proofs.RefusalLemmas.{wants_list}
use Rattle.dl_pack.proofs.columns.put_slice.Goals as goal

pub returns-in_err-extend_from_slice-clause-refused : goal.returns-in_err-extend_from_slice-clause-refused
returns-in_err-extend_from_slice-clause-refused g c =
    wants_list _ _ _ _ (omega arith) c.in_err-extend_from_slice.ensures.refused
