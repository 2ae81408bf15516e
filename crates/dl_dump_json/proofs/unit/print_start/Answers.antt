use Rattle.std.proofs.Common.{◌++◌, codes}
use Rattle.std.proofs.lemmas.Result.{err_from_is_err_and}
use Rattle.dl_path.proofs.PrintLemmas.{loses_front, loses_then, prints_then}
use Rattle.std.specs.Prelude.{decimal}
use Rattle.dl_print.specs.Text.{format_name}
use Rattle.dl_dump_json.specs.Units.{unit_start}
use Rattle.dl_dump_json.proofs.unit.print_start.Goals as goal

pub returns-in_err-put-clause-printed : goal.returns-in_err-put-clause-printed
unfolding unit_start
returns-in_err-put-clause-printed g c start text h =
    let e = err_from_is_err_and c.from_residual.result c.from_residual.ensures.1 in
    rw (e.1, e.2) (loses_front _ _ _ (codes "{\"kind\":\"unit\",\"offset\":") (decimal c.args.offset ++ (codes ",\"format\":\"" ++ (format_name c.args.format ++ (codes "\"")))) _ c.in_err-put.ensures.printed start text h)

pub returns-in_err-number-clause-printed : goal.returns-in_err-number-clause-printed
unfolding unit_start
returns-in_err-number-clause-printed g c start text h =
    let e = err_from_is_err_and c.from_residual-in_err-number.result c.from_residual-in_err-number.ensures.1 in
    rw (e.1, e.2) (loses_then _ _ _ _ _ (codes "{\"kind\":\"unit\",\"offset\":") (decimal c.args.offset ++ (codes ",\"format\":\"" ++ (format_name c.args.format ++ (codes "\"")))) _ c.in_ok-put.ensures.printed
    (loses_front _ _ _ (decimal c.args.offset) (codes ",\"format\":\"" ++ (format_name c.args.format ++ (codes "\""))) _ c.in_err-number.ensures.printed) start text h)

pub returns-in_err-put-2-clause-printed : goal.returns-in_err-put-2-clause-printed
unfolding unit_start
returns-in_err-put-2-clause-printed g c start text h =
    let e = err_from_is_err_and c.from_residual-in_err-put-2.result c.from_residual-in_err-put-2.ensures.1 in
    rw (e.1, e.2) (loses_then _ _ _ _ _ (codes "{\"kind\":\"unit\",\"offset\":") (decimal c.args.offset ++ (codes ",\"format\":\"" ++ (format_name c.args.format ++ (codes "\"")))) _ c.in_ok-put.ensures.printed
    (loses_then _ _ _ _ _ (decimal c.args.offset) (codes ",\"format\":\"" ++ (format_name c.args.format ++ (codes "\""))) _ c.in_ok-number.ensures.printed
    (loses_front _ _ _ (codes ",\"format\":\"") (format_name c.args.format ++ (codes "\"")) _ c.in_err-put-2.ensures.printed)) start text h)

pub returns-in_err-put-3-clause-printed : goal.returns-in_err-put-3-clause-printed
unfolding unit_start
returns-in_err-put-3-clause-printed g c start text h =
    let e = err_from_is_err_and c.from_residual-in_err-put-3.result c.from_residual-in_err-put-3.ensures.1 in
    rw (e.1, e.2) (loses_then _ _ _ _ _ (codes "{\"kind\":\"unit\",\"offset\":") (decimal c.args.offset ++ (codes ",\"format\":\"" ++ (format_name c.args.format ++ (codes "\"")))) _ c.in_ok-put.ensures.printed
    (loses_then _ _ _ _ _ (decimal c.args.offset) (codes ",\"format\":\"" ++ (format_name c.args.format ++ (codes "\""))) _ c.in_ok-number.ensures.printed
    (loses_then _ _ _ _ _ (codes ",\"format\":\"") (format_name c.args.format ++ (codes "\"")) _ c.in_ok-put-2.ensures.printed
    (loses_front _ _ _ (format_name c.args.format) (codes "\"") _ (rw c.format_name.ensures at c.in_err-put-3.ensures.printed)))) start text h)

pub returns-clause-printed : goal.returns-clause-printed
unfolding unit_start
returns-clause-printed g c =
    prints_then _ _ _ _ _ _ (codes "{\"kind\":\"unit\",\"offset\":") (decimal c.args.offset ++ (codes ",\"format\":\"" ++ (format_name c.args.format ++ (codes "\"")))) _ c.in_ok-put.ensures.printed
    (prints_then _ _ _ _ _ _ (decimal c.args.offset) (codes ",\"format\":\"" ++ (format_name c.args.format ++ (codes "\""))) _ c.in_ok-number.ensures.printed
    (prints_then _ _ _ _ _ _ (codes ",\"format\":\"") (format_name c.args.format ++ (codes "\"")) _ c.in_ok-put-2.ensures.printed
    (prints_then _ _ _ _ _ _ (format_name c.args.format) (codes "\"") _ (rw c.format_name.ensures at c.in_ok-put-3.ensures.printed)
    c.put-4.ensures.printed)))
