use Rattle.std.proofs.Common.{◌++◌, codes}
use Rattle.std.proofs.lemmas.Result.{err_from_is_err_and}
use Rattle.dl_print.specs.Digits.{hexadecimal}
use Rattle.dl_addr.specs.Json.{json_is_stmt}
use Rattle.dl_path.proofs.PrintLemmas.{loses_front, prints_then}
use Rattle.dl_addr.proofs.json_line.print_end.Goals as goal

pub returns-in_err-print_is_stmt-clause-printed : goal.returns-in_err-print_is_stmt-clause-printed
returns-in_err-print_is_stmt-clause-printed g c start text h =
    let p = err_from_is_err_and c.from_residual.result c.from_residual.ensures.1 in
    let a = json_is_stmt c.args.is_stmt in
    let b = (codes ",\"unit\":\"0x" ++ hexadecimal c.args.unit) ++ codes "\"" in
    let old = g.W.Write.contents c.args.output.now in
    let new = g.W.Write.contents c.print_is_stmt.new.output in
    rw (p.1, p.2) (loses_front old new c.args.printer.now a b _ c.in_err-print_is_stmt.ensures.printed start text h)

pub returns-clause-printed : goal.returns-clause-printed
returns-clause-printed g c =
    let a = json_is_stmt c.args.is_stmt in
    let b = (codes ",\"unit\":\"0x" ++ hexadecimal c.args.unit) ++ codes "\"" in
    let old = g.W.Write.contents c.args.output.now in
    let mid = g.W.Write.contents c.print_is_stmt.new.output in
    let new = g.W.Write.contents c.print_unit.new.output in
    prints_then old mid new c.args.printer.now c.print_is_stmt.new.printer c.print_unit.new.printer a b
    c.print_unit.result c.in_ok-print_is_stmt.ensures.printed c.print_unit.ensures.printed
