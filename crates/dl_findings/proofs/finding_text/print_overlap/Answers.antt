use Rattle.std.proofs.Common.{◌++◌, codes}
use Rattle.std.proofs.lemmas.Result.{err_from_is_err_and}
use Rattle.dl_path.proofs.PrintLemmas.{loses_front, loses_then, prints_then}
use Rattle.dl_print.specs.Digits.{hexadecimal}
use Rattle.dl_findings.specs.FindingText.{overlap_text, place_text}
use Rattle.dl_findings.proofs.finding_text.print_overlap.Goals as goal

pub returns-in_err-put-clause-printed : goal.returns-in_err-put-clause-printed
unfolding overlap_text
returns-in_err-put-clause-printed g c start text h =
    let e = err_from_is_err_and c.from_residual.result c.from_residual.ensures.1 in
    rw (e.1, e.2) (loses_front _ _ _ (codes "ends a sequence that covers ") ((place_text c.args.place) ++ ((codes ", as one of the unit at ") ++ ((codes "0x" ++ hexadecimal c.args.unit) ++ (codes " does")))) _ c.in_err-put.ensures.printed start text h)

pub returns-in_err-print_place-clause-printed : goal.returns-in_err-print_place-clause-printed
unfolding overlap_text
returns-in_err-print_place-clause-printed g c start text h =
    let e = err_from_is_err_and c.from_residual-in_err-print_place.result c.from_residual-in_err-print_place.ensures.1 in
    rw (e.1, e.2) (loses_then _ _ _ _ _ (codes "ends a sequence that covers ") ((place_text c.args.place) ++ ((codes ", as one of the unit at ") ++ ((codes "0x" ++ hexadecimal c.args.unit) ++ (codes " does")))) _ c.in_ok-put.ensures.printed
    (loses_front _ _ _ (place_text c.args.place) ((codes ", as one of the unit at ") ++ ((codes "0x" ++ hexadecimal c.args.unit) ++ (codes " does"))) _ c.in_err-print_place.ensures.printed) start text h)

pub returns-in_err-put-2-clause-printed : goal.returns-in_err-put-2-clause-printed
unfolding overlap_text
returns-in_err-put-2-clause-printed g c start text h =
    let e = err_from_is_err_and c.from_residual-in_err-put-2.result c.from_residual-in_err-put-2.ensures.1 in
    rw (e.1, e.2) (loses_then _ _ _ _ _ (codes "ends a sequence that covers ") ((place_text c.args.place) ++ ((codes ", as one of the unit at ") ++ ((codes "0x" ++ hexadecimal c.args.unit) ++ (codes " does")))) _ c.in_ok-put.ensures.printed
    (loses_then _ _ _ _ _ (place_text c.args.place) ((codes ", as one of the unit at ") ++ ((codes "0x" ++ hexadecimal c.args.unit) ++ (codes " does"))) _ c.in_ok-print_place.ensures.printed
    (loses_front _ _ _ (codes ", as one of the unit at ") ((codes "0x" ++ hexadecimal c.args.unit) ++ (codes " does")) _ c.in_err-put-2.ensures.printed)) start text h)

pub returns-in_err-hexadecimal_number-clause-printed : goal.returns-in_err-hexadecimal_number-clause-printed
unfolding overlap_text
returns-in_err-hexadecimal_number-clause-printed g c start text h =
    let e = err_from_is_err_and c.from_residual-in_err-hexadecimal_number.result c.from_residual-in_err-hexadecimal_number.ensures.1 in
    rw (e.1, e.2) (loses_then _ _ _ _ _ (codes "ends a sequence that covers ") ((place_text c.args.place) ++ ((codes ", as one of the unit at ") ++ ((codes "0x" ++ hexadecimal c.args.unit) ++ (codes " does")))) _ c.in_ok-put.ensures.printed
    (loses_then _ _ _ _ _ (place_text c.args.place) ((codes ", as one of the unit at ") ++ ((codes "0x" ++ hexadecimal c.args.unit) ++ (codes " does"))) _ c.in_ok-print_place.ensures.printed
    (loses_then _ _ _ _ _ (codes ", as one of the unit at ") ((codes "0x" ++ hexadecimal c.args.unit) ++ (codes " does")) _ c.in_ok-put-2.ensures.printed
    (loses_front _ _ _ (codes "0x" ++ hexadecimal c.args.unit) (codes " does") _ c.in_err-hexadecimal_number.ensures.printed))) start text h)

pub returns-clause-printed : goal.returns-clause-printed
unfolding overlap_text
returns-clause-printed g c =
    prints_then _ _ _ _ _ _ (codes "ends a sequence that covers ") ((place_text c.args.place) ++ ((codes ", as one of the unit at ") ++ ((codes "0x" ++ hexadecimal c.args.unit) ++ (codes " does")))) _ c.in_ok-put.ensures.printed
    (prints_then _ _ _ _ _ _ (place_text c.args.place) ((codes ", as one of the unit at ") ++ ((codes "0x" ++ hexadecimal c.args.unit) ++ (codes " does"))) _ c.in_ok-print_place.ensures.printed
    (prints_then _ _ _ _ _ _ (codes ", as one of the unit at ") ((codes "0x" ++ hexadecimal c.args.unit) ++ (codes " does")) _ c.in_ok-put-2.ensures.printed
    (prints_then _ _ _ _ _ _ (codes "0x" ++ hexadecimal c.args.unit) (codes " does") _ c.in_ok-hexadecimal_number.ensures.printed
    c.put-3.ensures.printed)))
