use Rattle.std.proofs.Common.{◌++◌, codes}
use Rattle.std.proofs.lemmas.Result.{err_from_is_err_and}
use Rattle.dl_path.proofs.PrintLemmas.{loses_front, loses_then, prints_then}
use Rattle.std.specs.Prelude.{decimal}
use Rattle.dl_dump_json.specs.Rows.{numbers_members}
use Rattle.dl_dump_json.proofs.row.print_numbers.Goals as goal

pub returns-in_err-number-clause-printed : goal.returns-in_err-number-clause-printed
unfolding numbers_members
returns-in_err-number-clause-printed g c start text h =
    let e = err_from_is_err_and c.from_residual.result c.from_residual.ensures.1 in
    rw (e.1, e.2) (loses_front _ _ _ (codes ",\"op_index\":" ++ decimal c.args.row.now.op_index) (codes ",\"file\":" ++ decimal c.args.row.now.file ++ (codes ",\"line\":" ++ decimal c.args.row.now.line ++ (codes ",\"column\":" ++ decimal c.args.row.now.column))) _ c.in_err-number.ensures.printed start text h)

pub returns-in_err-number-2-clause-printed : goal.returns-in_err-number-2-clause-printed
unfolding numbers_members
returns-in_err-number-2-clause-printed g c start text h =
    let e = err_from_is_err_and c.from_residual-in_err-number-2.result c.from_residual-in_err-number-2.ensures.1 in
    rw (e.1, e.2) (loses_then _ _ _ _ _ (codes ",\"op_index\":" ++ decimal c.args.row.now.op_index) (codes ",\"file\":" ++ decimal c.args.row.now.file ++ (codes ",\"line\":" ++ decimal c.args.row.now.line ++ (codes ",\"column\":" ++ decimal c.args.row.now.column))) _ c.in_ok-number.ensures.printed
    (loses_front _ _ _ (codes ",\"file\":" ++ decimal c.args.row.now.file) (codes ",\"line\":" ++ decimal c.args.row.now.line ++ (codes ",\"column\":" ++ decimal c.args.row.now.column)) _ c.in_err-number-2.ensures.printed) start text h)

pub returns-in_err-number-3-clause-printed : goal.returns-in_err-number-3-clause-printed
unfolding numbers_members
returns-in_err-number-3-clause-printed g c start text h =
    let e = err_from_is_err_and c.from_residual-in_err-number-3.result c.from_residual-in_err-number-3.ensures.1 in
    rw (e.1, e.2) (loses_then _ _ _ _ _ (codes ",\"op_index\":" ++ decimal c.args.row.now.op_index) (codes ",\"file\":" ++ decimal c.args.row.now.file ++ (codes ",\"line\":" ++ decimal c.args.row.now.line ++ (codes ",\"column\":" ++ decimal c.args.row.now.column))) _ c.in_ok-number.ensures.printed
    (loses_then _ _ _ _ _ (codes ",\"file\":" ++ decimal c.args.row.now.file) (codes ",\"line\":" ++ decimal c.args.row.now.line ++ (codes ",\"column\":" ++ decimal c.args.row.now.column)) _ c.in_ok-number-2.ensures.printed
    (loses_front _ _ _ (codes ",\"line\":" ++ decimal c.args.row.now.line) (codes ",\"column\":" ++ decimal c.args.row.now.column) _ c.in_err-number-3.ensures.printed)) start text h)

pub returns-clause-printed : goal.returns-clause-printed
unfolding numbers_members
returns-clause-printed g c =
    prints_then _ _ _ _ _ _ (codes ",\"op_index\":" ++ decimal c.args.row.now.op_index) (codes ",\"file\":" ++ decimal c.args.row.now.file ++ (codes ",\"line\":" ++ decimal c.args.row.now.line ++ (codes ",\"column\":" ++ decimal c.args.row.now.column))) _ c.in_ok-number.ensures.printed
    (prints_then _ _ _ _ _ _ (codes ",\"file\":" ++ decimal c.args.row.now.file) (codes ",\"line\":" ++ decimal c.args.row.now.line ++ (codes ",\"column\":" ++ decimal c.args.row.now.column)) _ c.in_ok-number-2.ensures.printed
    (prints_then _ _ _ _ _ _ (codes ",\"line\":" ++ decimal c.args.row.now.line) (codes ",\"column\":" ++ decimal c.args.row.now.column) _ c.in_ok-number-3.ensures.printed
    c.number-4.ensures.printed))
