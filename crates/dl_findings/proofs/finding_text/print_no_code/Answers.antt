use Rattle.std.proofs.Common.{◌++◌, codes}
use Rattle.std.proofs.lemmas.Result.{err_from_is_err_and}
use Rattle.dl_path.proofs.PrintLemmas.{loses_front, loses_then, prints_then}
use Rattle.std.specs.Prelude.{decimal}
use Rattle.dl_findings.specs.FindingText.{address_text, no_code_text}
use Rattle.dl_findings.proofs.finding_text.print_no_code.Goals as goal

pub returns-in_err-print_number-clause-printed : goal.returns-in_err-print_number-clause-printed
unfolding no_code_text
returns-in_err-print_number-clause-printed g c start text h =
    let e = err_from_is_err_and c.from_residual.result c.from_residual.ensures.1 in
    rw (e.1, e.2) (loses_front _ _ _ (codes "no sequence covers an address of the " ++ decimal c.args.size) ((codes " bytes of code from ") ++ ((address_text c.args.start) ++ (codes " on"))) _ c.in_err-print_number.ensures.printed start text h)

pub returns-in_err-put-clause-printed : goal.returns-in_err-put-clause-printed
unfolding no_code_text
returns-in_err-put-clause-printed g c start text h =
    let e = err_from_is_err_and c.from_residual-in_err-put.result c.from_residual-in_err-put.ensures.1 in
    rw (e.1, e.2) (loses_then _ _ _ _ _ (codes "no sequence covers an address of the " ++ decimal c.args.size) ((codes " bytes of code from ") ++ ((address_text c.args.start) ++ (codes " on"))) _ c.in_ok-print_number.ensures.printed
    (loses_front _ _ _ (codes " bytes of code from ") ((address_text c.args.start) ++ (codes " on")) _ c.in_err-put.ensures.printed) start text h)

pub returns-in_err-address-clause-printed : goal.returns-in_err-address-clause-printed
unfolding no_code_text
returns-in_err-address-clause-printed g c start text h =
    let e = err_from_is_err_and c.from_residual-in_err-address.result c.from_residual-in_err-address.ensures.1 in
    rw (e.1, e.2) (loses_then _ _ _ _ _ (codes "no sequence covers an address of the " ++ decimal c.args.size) ((codes " bytes of code from ") ++ ((address_text c.args.start) ++ (codes " on"))) _ c.in_ok-print_number.ensures.printed
    (loses_then _ _ _ _ _ (codes " bytes of code from ") ((address_text c.args.start) ++ (codes " on")) _ c.in_ok-put.ensures.printed
    (loses_front _ _ _ (address_text c.args.start) (codes " on") _ c.in_err-address.ensures.printed)) start text h)

pub returns-clause-printed : goal.returns-clause-printed
unfolding no_code_text
returns-clause-printed g c =
    prints_then _ _ _ _ _ _ (codes "no sequence covers an address of the " ++ decimal c.args.size) ((codes " bytes of code from ") ++ ((address_text c.args.start) ++ (codes " on"))) _ c.in_ok-print_number.ensures.printed
    (prints_then _ _ _ _ _ _ (codes " bytes of code from ") ((address_text c.args.start) ++ (codes " on")) _ c.in_ok-put.ensures.printed
    (prints_then _ _ _ _ _ _ (address_text c.args.start) (codes " on") _ c.in_ok-address.ensures.printed
    c.put-2.ensures.printed))
