use Rattle.std.proofs.Common.{◌++◌, codes, decimal}
use Rattle.std.proofs.lemmas.Result.{err_from_is_err_and}
use Rattle.dl_addr.specs.Locations.{column_text}
use Rattle.dl_addr.specs.Texts.{path_kept}
use Rattle.dl_addr.specs.Printing.{named_text}
use Rattle.dl_path.proofs.PrintLemmas.{loses_front, loses_then}
use Rattle.dl_addr.proofs.printing.print_place.Goals as goal

pub returns-in_err-print_path-clause-printed : goal.returns-in_err-print_path-clause-printed
returns-in_err-print_path-clause-printed g c start text h =
    let p = err_from_is_err_and c.from_residual.result c.from_residual.ensures.1 in
    let answer = c.args.answer.now in
    let path = named_text c.args.form (path_kept answer.path) in
    let old = g.W.Write.contents c.args.output.now in
    let new = g.W.Write.contents c.print_path.new.output in
    let line = codes ":" ++ decimal answer.position.line in
    rw (p.1, p.2) (loses_front old new c.args.printer.now (path ++ line) (column_text answer.position.column) _
    (loses_front old new c.args.printer.now path line _ c.in_err-print_path.ensures.printed) start text h)

pub returns-in_err-number-clause-printed : goal.returns-in_err-number-clause-printed
returns-in_err-number-clause-printed g c start text h =
    let p = err_from_is_err_and c.from_residual-in_err-number.result c.from_residual-in_err-number.ensures.1 in
    let answer = c.args.answer.now in
    let path = named_text c.args.form (path_kept answer.path) in
    let old = g.W.Write.contents c.args.output.now in
    let mid = g.W.Write.contents c.print_path.new.output in
    let new = g.W.Write.contents c.number.new.output in
    let line = codes ":" ++ decimal answer.position.line in
    rw (p.1, p.2) (loses_front old new c.args.printer.now (path ++ line) (column_text answer.position.column) _
    (loses_then old mid new c.args.printer.now c.print_path.new.printer path line _ c.in_ok-print_path.ensures.printed
    c.in_err-number.ensures.printed) start text h)
