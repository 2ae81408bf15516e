use Rattle.std.proofs.Common.{◌++◌, ◌∙◌, ap}
use Rattle.dl_num.specs.Shortest.{shortest_uleb}
use Rattle.dl_table.specs.Value.{form_code}
use Rattle.std.proofs.lemmas.Result.{err_from_is_err_and}
use Rattle.dl_table.proofs.WritingLemmas.{TellsOut-front, Written-same, both_written}
use Rattle.dl_table.proofs.table.writing.put_pair.Goals as goal

pub returns-in_err-out-clause-written : goal.returns-in_err-out-clause-written
returns-in_err-out-clause-written g c = λ start text h.
    let p = err_from_is_err_and c.from_residual.result c.from_residual.ensures.1 in
    rw (p.1, p.2) (TellsOut-front start _ text (shortest_uleb c.args.pair.content) (shortest_uleb (form_code c.args.pair.form)) _ (c.in_err-out.ensures.written start text h))

pub returns-clause-written : goal.returns-clause-written
returns-clause-written g c = λ start text h.
    let content = shortest_uleb c.args.pair.content in
    let form = ap (λ n. content ++ shortest_uleb n) (c.from.ensures ∙ c.code.ensures) in
    Written-same start _ text _ _ _ form
    (both_written _ _ _ _ _ _ _ _ c.in_ok-out.ensures.written c.put_uleb-2.ensures.written start text h)
