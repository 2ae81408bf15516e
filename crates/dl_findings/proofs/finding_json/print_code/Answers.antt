use Rattle.std.proofs.lemmas.Result.{err_from_is_err_and}
use Rattle.dl_path.proofs.PrintLemmas.{loses_front}
use Rattle.std.specs.Prelude.{decimal}
use Rattle.dl_findings.proofs.finding_json.print_code.Goals as goal

pub returns-in_err-put-clause-printed : goal.returns-in_err-put-clause-printed
returns-in_err-put-clause-printed g c start text h =
    let e = err_from_is_err_and c.from_residual.result c.from_residual.ensures.1 in
    rw (e.1, e.2) (loses_front _ _ _ (c.args.name.now) (decimal c.args.code) _
    c.in_err-put.ensures.printed start text h)
