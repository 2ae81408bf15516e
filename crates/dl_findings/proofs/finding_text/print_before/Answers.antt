use Rattle.std.proofs.Common.{codes}
use Rattle.std.proofs.lemmas.Result.{err_from_is_err_and}
use Rattle.dl_path.proofs.PrintLemmas.{loses_front, prints_then}
use Rattle.dl_findings.specs.FindingText.{place_text}
use Rattle.dl_findings.proofs.finding_text.print_before.Goals as goal

pub returns-in_err-put-clause-printed : goal.returns-in_err-put-clause-printed
returns-in_err-put-clause-printed g c start text h =
    let e = err_from_is_err_and c.from_residual.result c.from_residual.ensures.1 in
    rw (e.1, e.2) (loses_front _ _ _ (codes "is below the row before it at ") (place_text c.args.before) _ c.in_err-put.ensures.printed start text h)

pub returns-clause-printed : goal.returns-clause-printed
returns-clause-printed g c =
    prints_then _ _ _ _ _ _ (codes "is below the row before it at ") (place_text c.args.before) _ c.in_ok-put.ensures.printed
    c.print_place.ensures.printed
