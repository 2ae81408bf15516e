use Rattle.std.proofs.Common.{arith}
use Rattle.dl_memory.proofs.RefusalLemmas.{wants_list}
use Rattle.dl_making.proofs.numbers.unseen.Goals as goal

pub returns-in_err-numbers-clause-refused : goal.returns-in_err-numbers-clause-refused
returns-in_err-numbers-clause-refused g c = wants_list _ _ c.args.count _ (omega arith) c.in_err-numbers.ensures.refused
