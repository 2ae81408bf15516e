use Rattle.std.proofs.Common.{length}
use Rattle.dl_num.specs.Fixed.{fixed_bytes}
use Rattle.std.proofs.lemmas.Result.{err_from_is_err_and}
use Rattle.dl_table.proofs.WritingLemmas.{TellsOut-front, both_written}
use Rattle.dl_table.proofs.table.writing.put_sized.Goals as goal

pub returns-in_err-out-clause-written : goal.returns-in_err-out-clause-written
returns-in_err-out-clause-written g c = λ start text h.
    let p = err_from_is_err_and c.from_residual.result c.from_residual.ensures.1 in
    rw (p.1, p.2) (TellsOut-front start _ text (fixed_bytes c.args.order c.args.size (length c.args.bytes.now)) (c.args.bytes.now) _ (c.in_err-out.ensures.written start text h))

pub returns-clause-written : goal.returns-clause-written
returns-clause-written g c =
    both_written _ _ _ _ _ _ _ _ c.in_ok-out.ensures.written c.put.ensures.written
