use Rattle.std.proofs.Common.{codes}
use Rattle.std.proofs.lemmas.Result.{err_from_is_err_and}
use Rattle.dl_path.proofs.PrintLemmas.{loses_front, prints_then}
use Rattle.dl_print.specs.Text.{number_if_any}
use Rattle.dl_findings.specs.FindingText.{address_text, place_text}
use Rattle.dl_findings.proofs.finding_text.print_place.Goals as goal

pub returns-in_err-address-clause-printed : goal.returns-in_err-address-clause-printed
unfolding place_text
returns-in_err-address-clause-printed g c start text h =
    let e = err_from_is_err_and c.from_residual.result c.from_residual.ensures.1 in
    rw (e.1, e.2) (loses_front _ _ _ (address_text c.args.place.address) (number_if_any (codes " op_index ") c.args.place.op_index) _ c.in_err-address.ensures.printed start text h)

pub returns-clause-printed : goal.returns-clause-printed
unfolding place_text
returns-clause-printed g c =
    prints_then _ _ _ _ _ _ (address_text c.args.place.address) (number_if_any (codes " op_index ") c.args.place.op_index) _ c.in_ok-address.ensures.printed
    c.print_op_index.ensures.printed
