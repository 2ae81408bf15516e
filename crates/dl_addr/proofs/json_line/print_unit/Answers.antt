use Rattle.std.proofs.Common.{◌++◌, codes}
use Rattle.std.proofs.lemmas.Result.{err_from_is_err_and}
use Rattle.dl_print.specs.Digits.{hexadecimal}
use Rattle.dl_path.proofs.PrintLemmas.{loses_front, prints_then}
use Rattle.dl_addr.proofs.json_line.print_unit.Goals as goal

pub returns-in_err-hexadecimal_number-clause-printed : goal.returns-in_err-hexadecimal_number-clause-printed
returns-in_err-hexadecimal_number-clause-printed g c start text h =
    let p = err_from_is_err_and c.from_residual.result c.from_residual.ensures.1 in
    let a = codes ",\"unit\":\"0x" ++ hexadecimal c.args.unit in
    let b = codes "\"" in
    let old = g.W.Write.contents c.args.output.now in
    let new = g.W.Write.contents c.hexadecimal_number.new.output in
    rw (p.1, p.2) (loses_front old new c.args.printer.now a b _ c.in_err-hexadecimal_number.ensures.printed start text
    h)

pub returns-clause-printed : goal.returns-clause-printed
returns-clause-printed g c =
    let a = codes ",\"unit\":\"0x" ++ hexadecimal c.args.unit in
    let b = codes "\"" in
    let old = g.W.Write.contents c.args.output.now in
    let mid = g.W.Write.contents c.hexadecimal_number.new.output in
    let new = g.W.Write.contents c.put.new.output in
    prints_then old mid new c.args.printer.now c.hexadecimal_number.new.self c.put.new.self a b c.put.result
    c.in_ok-hexadecimal_number.ensures.printed c.put.ensures.printed
