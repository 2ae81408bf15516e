use Rattle.std.proofs.Common.{◌++◌, codes}
use Rattle.std.proofs.lemmas.Result.{err_from_is_err_and}
use Rattle.dl_path.proofs.PrintLemmas.{loses_front, loses_then, prints_then}
use Rattle.std.specs.Prelude.{decimal}
use Rattle.dl_findings.specs.FindingText.{address_text, dead_text}
use Rattle.dl_findings.proofs.finding_text.print_dead.Goals as goal

pub returns-in_err-number-clause-printed : goal.returns-in_err-number-clause-printed
unfolding dead_text
returns-in_err-number-clause-printed g c start text h =
    let e = err_from_is_err_and c.from_residual.result c.from_residual.ensures.1 in
    rw (e.1, e.2) (loses_front _ _ _ (decimal c.args.sequences) ((codes " sequences begin outside the code, the first at ") ++ (address_text c.args.first)) _ c.in_err-number.ensures.printed start text h)

pub returns-in_err-put-clause-printed : goal.returns-in_err-put-clause-printed
unfolding dead_text
returns-in_err-put-clause-printed g c start text h =
    let e = err_from_is_err_and c.from_residual-in_err-put.result c.from_residual-in_err-put.ensures.1 in
    rw (e.1, e.2) (loses_then _ _ _ _ _ (decimal c.args.sequences) ((codes " sequences begin outside the code, the first at ") ++ (address_text c.args.first)) _ c.in_ok-number.ensures.printed
    (loses_front _ _ _ (codes " sequences begin outside the code, the first at ") (address_text c.args.first) _ c.in_err-put.ensures.printed) start text h)

pub returns-clause-printed : goal.returns-clause-printed
unfolding dead_text
returns-clause-printed g c =
    prints_then _ _ _ _ _ _ (decimal c.args.sequences) ((codes " sequences begin outside the code, the first at ") ++ (address_text c.args.first)) _ c.in_ok-number.ensures.printed
    (prints_then _ _ _ _ _ _ (codes " sequences begin outside the code, the first at ") (address_text c.args.first) _ c.in_ok-put.ensures.printed
    c.address.ensures.printed)
