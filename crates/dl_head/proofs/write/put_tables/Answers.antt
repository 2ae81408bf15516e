use Rattle.std.proofs.lemmas.Result.{err_from_is_err_and}
use Rattle.dl_table.specs.Written.{table_bytes}
use Rattle.dl_table.proofs.WritingLemmas.{TellsOut-front}
use Rattle.dl_head.proofs.write.put_tables.Goals as goal

pub returns-in_err-out-clause-written : goal.returns-in_err-out-clause-written
returns-in_err-out-clause-written g c = λ start text h.
    let header = c.args.header.now in
    let p = err_from_is_err_and c.from_residual.result c.from_residual.ensures.1 in
    let tells = rw c.directories.ensures at (c.in_err-out.ensures.written start text h) in
    rw (p.1, p.2) (TellsOut-front start _ text (table_bytes c.args.order header.directories)
    (table_bytes c.args.order header.files) _ tells)
