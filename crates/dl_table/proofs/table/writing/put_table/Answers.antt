use Rattle.std.proofs.lemmas.Result.{err_from_is_err_and}
use Rattle.dl_table.specs.Spelled.{entry_parts, format_parts}
use Rattle.dl_table.proofs.WritingLemmas.{TellsOut-front}
use Rattle.dl_table.proofs.table.writing.put_table.Goals as goal

pub returns-in_err-out-clause-written : goal.returns-in_err-out-clause-written
returns-in_err-out-clause-written g c = λ start text h.
    let pairs = c.args.pairs.now in
    let p = err_from_is_err_and c.from_residual.result c.from_residual.ensures.1 in
    rw (p.1, p.2) (TellsOut-front start _ text (format_parts pairs)
    (entry_parts c.args.encoding.order c.args.encoding.format pairs c.args.values.now c.args.pool.now) _
    (c.in_err-out.ensures.written start text h))
