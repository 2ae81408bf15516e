use Rattle.std.proofs.lemmas.Result.{err_from_is_err_and}
use Rattle.std.proofs.Common.{◌++◌, codes}
use Rattle.dl_print.specs.Digits.{hexadecimal_of}
use Rattle.dl_path.proofs.PrintLemmas.{loses_front, prints_then}
use Rattle.dl_dump.proofs.operation.print_address.Goals as goal

pub returns-in_err-put-clause-printed : goal.returns-in_err-put-clause-printed
returns-in_err-put-clause-printed g c start text h =
    let p = err_from_is_err_and c.from_residual.result c.from_residual.ensures.1 in
    rw (p.1, p.2) (loses_front (g.W.Write.contents c.args.output.now) (g.W.Write.contents c.put.new.output)
    c.args.printer.now (codes " DW_LNE_set_address ") (codes "0x" ++ hexadecimal_of 16 c.args.address) _ c.in_err-put.ensures.printed start text h)

pub returns-clause-printed : goal.returns-clause-printed
returns-clause-printed g c =
    prints_then (g.W.Write.contents c.args.output.now) (g.W.Write.contents c.put.new.output)
    (g.W.Write.contents c.address.new.output) c.args.printer.now c.put.new.self c.address.new.self
    (codes " DW_LNE_set_address ") (codes "0x" ++ hexadecimal_of 16 c.args.address) c.address.result
    c.in_ok-put.ensures.printed c.address.ensures.printed
