use Rattle.std.proofs.lemmas.Result.{err_from_is_err_and}
use Rattle.dl_head.specs.Spelled.{byte_parts}
use Rattle.dl_table.proofs.WritingLemmas.{TellsOut-front}
use Rattle.dl_head.proofs.write.put_byte_fields.Goals as goal

pub returns-in_err-out-clause-written : goal.returns-in_err-out-clause-written
returns-in_err-out-clause-written g c = λ start text h.
    let params = c.args.params.now in
    let p = err_from_is_err_and c.from_residual.result c.from_residual.ensures.1 in
    let tells = rw c.byte_fields.ensures at (c.in_err-out.ensures.written start text h) in
    rw (p.1, p.2) (TellsOut-front start _ text (byte_parts params) params.lengths.items _ tells)
