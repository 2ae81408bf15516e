use Rattle.std.proofs.Common.{◌++◌, codes}
use Rattle.std.proofs.lemmas.Result.{err_from_is_err_and}
use Rattle.dl_path.proofs.PrintLemmas.{loses_front, loses_then, prints_then}
use Rattle.std.specs.Prelude.{decimal}
use Rattle.dl_dump_json.specs.Values.{offset_object}
use Rattle.dl_dump_json.proofs.value.print_offset.Goals as goal

pub returns-in_err-put-clause-printed : goal.returns-in_err-put-clause-printed
unfolding offset_object
returns-in_err-put-clause-printed g c start text h =
    let e = err_from_is_err_and c.from_residual.result c.from_residual.ensures.1 in
    rw (e.1, e.2) (loses_front _ _ _ (codes "{\"") (c.args.name.now ++ (codes "\":" ++ (decimal c.args.offset ++ (codes "}")))) _ c.in_err-put.ensures.printed start text h)

pub returns-in_err-put-2-clause-printed : goal.returns-in_err-put-2-clause-printed
unfolding offset_object
returns-in_err-put-2-clause-printed g c start text h =
    let e = err_from_is_err_and c.from_residual-in_err-put-2.result c.from_residual-in_err-put-2.ensures.1 in
    rw (e.1, e.2) (loses_then _ _ _ _ _ (codes "{\"") (c.args.name.now ++ (codes "\":" ++ (decimal c.args.offset ++ (codes "}")))) _ c.in_ok-put.ensures.printed
    (loses_front _ _ _ (c.args.name.now) (codes "\":" ++ (decimal c.args.offset ++ (codes "}"))) _ c.in_err-put-2.ensures.printed) start text h)

pub returns-in_err-put-3-clause-printed : goal.returns-in_err-put-3-clause-printed
unfolding offset_object
returns-in_err-put-3-clause-printed g c start text h =
    let e = err_from_is_err_and c.from_residual-in_err-put-3.result c.from_residual-in_err-put-3.ensures.1 in
    rw (e.1, e.2) (loses_then _ _ _ _ _ (codes "{\"") (c.args.name.now ++ (codes "\":" ++ (decimal c.args.offset ++ (codes "}")))) _ c.in_ok-put.ensures.printed
    (loses_then _ _ _ _ _ (c.args.name.now) (codes "\":" ++ (decimal c.args.offset ++ (codes "}"))) _ c.in_ok-put-2.ensures.printed
    (loses_front _ _ _ (codes "\":") (decimal c.args.offset ++ (codes "}")) _ c.in_err-put-3.ensures.printed)) start text h)

pub returns-in_err-number-clause-printed : goal.returns-in_err-number-clause-printed
unfolding offset_object
returns-in_err-number-clause-printed g c start text h =
    let e = err_from_is_err_and c.from_residual-in_err-number.result c.from_residual-in_err-number.ensures.1 in
    rw (e.1, e.2) (loses_then _ _ _ _ _ (codes "{\"") (c.args.name.now ++ (codes "\":" ++ (decimal c.args.offset ++ (codes "}")))) _ c.in_ok-put.ensures.printed
    (loses_then _ _ _ _ _ (c.args.name.now) (codes "\":" ++ (decimal c.args.offset ++ (codes "}"))) _ c.in_ok-put-2.ensures.printed
    (loses_then _ _ _ _ _ (codes "\":") (decimal c.args.offset ++ (codes "}")) _ c.in_ok-put-3.ensures.printed
    (loses_front _ _ _ (decimal c.args.offset) (codes "}") _ c.in_err-number.ensures.printed))) start text h)

pub returns-clause-printed : goal.returns-clause-printed
unfolding offset_object
returns-clause-printed g c =
    prints_then _ _ _ _ _ _ (codes "{\"") (c.args.name.now ++ (codes "\":" ++ (decimal c.args.offset ++ (codes "}")))) _ c.in_ok-put.ensures.printed
    (prints_then _ _ _ _ _ _ (c.args.name.now) (codes "\":" ++ (decimal c.args.offset ++ (codes "}"))) _ c.in_ok-put-2.ensures.printed
    (prints_then _ _ _ _ _ _ (codes "\":") (decimal c.args.offset ++ (codes "}")) _ c.in_ok-put-3.ensures.printed
    (prints_then _ _ _ _ _ _ (decimal c.args.offset) (codes "}") _ c.in_ok-number.ensures.printed
    c.put-4.ensures.printed)))
