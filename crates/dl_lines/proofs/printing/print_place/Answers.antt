use Rattle.std.proofs.Common.{◌++◌}
use Rattle.dl_addr.specs.Locations.{column_text}
use Rattle.dl_lines.specs.Lines.{position_text, prologue_text}
use Rattle.dl_lines.specs.Printing.{found_place}
use Rattle.std.proofs.lemmas.Result.{err_from_is_err_and}
use Rattle.dl_path.proofs.PrintLemmas.{loses_front, loses_then}
use Rattle.dl_lines.proofs.printing.print_place.Goals as goal

pub returns-in_err-print_position-clause-printed : goal.returns-in_err-print_position-clause-printed
returns-in_err-print_position-clause-printed g c start text h =
    let p = err_from_is_err_and c.from_residual.result c.from_residual.ensures.1 in
    let place = found_place c.args.search.now c.args.place.now in
    let a = position_text place in
    let b = column_text place.column in
    let old = g.W.Write.contents c.args.output.now in
    let new = g.W.Write.contents c.print_position.new.output in
    rw (p.1, p.2) (loses_front old new c.args.printer.now (a ++ b) (prologue_text place.prologue_end) _
    (loses_front old new c.args.printer.now a b _ c.in_err-print_position.ensures.printed) start text h)

pub returns-in_err-print_column-clause-printed : goal.returns-in_err-print_column-clause-printed
returns-in_err-print_column-clause-printed g c start text h =
    let p = err_from_is_err_and c.from_residual-in_err-print_column.result c.from_residual-in_err-print_column.ensures.1 in
    let place = found_place c.args.search.now c.args.place.now in
    let a = position_text place in
    let b = column_text place.column in
    let old = g.W.Write.contents c.args.output.now in
    let mid = g.W.Write.contents c.print_position.new.output in
    let new = g.W.Write.contents c.print_column.new.output in
    rw (p.1, p.2) (loses_front old new c.args.printer.now (a ++ b) (prologue_text place.prologue_end) _
    (loses_then old mid new c.args.printer.now c.print_position.new.printer a b _ c.in_ok-print_position.ensures.printed
    c.in_err-print_column.ensures.printed) start text h)
