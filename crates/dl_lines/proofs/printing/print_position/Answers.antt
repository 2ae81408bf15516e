use Rattle.std.proofs.Common.{◌++◌, Some, ap, codes, decimal}
use Rattle.dl_addr.specs.Locations.{address_text}
use Rattle.dl_lines.specs.Lines.{path_text}
use Rattle.dl_lines.specs.Printing.{found_place}
use Rattle.std.proofs.lemmas.Result.{err_from_is_err_and}
use Rattle.dl_path.proofs.PrintLemmas.{loses_front, loses_same, loses_then}
use Rattle.dl_lines.proofs.printing.print_position.Goals as goal

pub returns-in_err-print_address-clause-printed : goal.returns-in_err-print_address-clause-printed
returns-in_err-print_address-clause-printed g c start text h =
    let p = err_from_is_err_and c.from_residual.result c.from_residual.ensures.1 in
    let place = found_place c.args.search.now c.args.place.now in
    let a = address_text (Some place.address) in
    let b = path_text place.path in
    let old = g.W.Write.contents c.args.output.now in
    let new = g.W.Write.contents c.print_address.new.output in
    rw (p.1, p.2) (loses_front old new c.args.printer.now (a ++ b) (codes ":" ++ decimal place.line) _
    (loses_front old new c.args.printer.now a b _ c.in_err-print_address.ensures.printed) start text h)

pub returns-in_err-print_path-clause-printed : goal.returns-in_err-print_path-clause-printed
returns-in_err-print_path-clause-printed g c start text h =
    let p = err_from_is_err_and c.from_residual-in_err-print_path.result c.from_residual-in_err-print_path.ensures.1 in
    let place = found_place c.args.search.now c.args.place.now in
    let a = address_text (Some place.address) in
    let b = path_text place.path in
    let old = g.W.Write.contents c.args.output.now in
    let mid = g.W.Write.contents c.print_address.new.output in
    let new = g.W.Write.contents c.print_path.new.output in
    rw (p.1, p.2) (loses_front old new c.args.printer.now (a ++ b) (codes ":" ++ decimal place.line) _
    (loses_then old mid new c.args.printer.now c.print_address.new.printer a b _ c.in_ok-print_address.ensures.printed
    (loses_same mid new c.print_address.new.printer _ b _ (ap path_text c.path_at.ensures) c.in_err-print_path.ensures.printed)) start text h)
