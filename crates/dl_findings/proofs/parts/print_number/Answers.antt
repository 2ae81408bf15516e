use Rattle.std.proofs.lemmas.Result.{err_from_is_err_and}
use Rattle.dl_path.proofs.PrintLemmas.{loses_front, prints_then}
use Rattle.std.specs.Prelude.{decimal}
use Rattle.dl_findings.proofs.parts.print_number.Goals as goal

pub returns-in_err-put-clause-printed : goal.returns-in_err-put-clause-printed
returns-in_err-put-clause-printed g c start text h =
    let e = err_from_is_err_and c.from_residual.result c.from_residual.ensures.1 in
    rw (e.1, e.2) (loses_front _ _ _ (c.args.name.now) (decimal c.args.number) _
    c.in_err-put.ensures.printed start text h)

pub returns-clause-printed : goal.returns-clause-printed
returns-clause-printed g c =
    prints_then _ _ _ _ _ _ (c.args.name.now) (decimal c.args.number) _ c.in_ok-put.ensures.printed
    c.number.ensures.printed
