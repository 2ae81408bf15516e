use Rattle.std.proofs.Common.{◌++◌, codes}
use Rattle.std.proofs.lemmas.Result.{err_from_is_err_and}
use Rattle.dl_print.specs.Text.{row_text}
use Rattle.dl_print.specs.ValueText.{strings_of}
use Rattle.dl_path.proofs.PrintLemmas.{loses_front, loses_then}
use Rattle.dl_dump.specs.DetailText.{DetailStyle, row_path}
use Rattle.dl_dump.proofs.dumping.print_row.Goals as goal

pub returns-in_err-row_text-clause-printed : goal.returns-in_err-row_text-clause-printed
returns-in_err-row_text-clause-printed g c start text h =
    let e = err_from_is_err_and c.from_residual.result c.from_residual.ensures.1 in
    let style : DetailStyle = record { details = c.args.details.now; strings = strings_of c.args.strings.now } in
    rw (e.1, e.2) (loses_front (g.W.Write.contents c.args.output.now) (g.W.Write.contents c.row_text.new.output)
    c.args.printer.now (row_text c.args.row.now)
    (row_path style c.args.at.now c.args.header.now c.args.row.now ++ codes "\n") _
    c.in_err-row_text.ensures.printed start text h)

pub returns-in_err-print_row_path-clause-printed : goal.returns-in_err-print_row_path-clause-printed
returns-in_err-print_row_path-clause-printed g c start text h =
    let e = err_from_is_err_and c.from_residual-in_err-print_row_path.result
    c.from_residual-in_err-print_row_path.ensures.1 in
    let style : DetailStyle = record { details = c.args.details.now; strings = strings_of c.args.strings.now } in
    let path = row_path style c.args.at.now c.args.header.now c.args.row.now in
    let old = g.W.Write.contents c.args.output.now in
    let mid = g.W.Write.contents c.row_text.new.output in
    let new = g.W.Write.contents c.print_row_path.new.output in
    rw (e.1, e.2) (loses_then old mid new c.args.printer.now c.row_text.new.self (row_text c.args.row.now)
    (path ++ codes "\n") _ c.in_ok-row_text.ensures.printed
    (loses_front mid new c.row_text.new.self path (codes "\n") _ c.in_err-print_row_path.ensures.printed) start text h)
