use Rattle.std.proofs.lemmas.Result.{err_from_is_err_and}
use Rattle.std.proofs.Common.{◌++◌, codes}
use Rattle.dl_print.specs.Digits.{hexadecimal}
use Rattle.dl_dump.specs.OperationText.{operation_start}
use Rattle.dl_path.proofs.PrintLemmas.{loses_front, prints_then}
use Rattle.dl_dump.proofs.operation.print_offset.Goals as goal

pub returns-in_err-hexadecimal_number-clause-printed : goal.returns-in_err-hexadecimal_number-clause-printed
unfolding operation_start
returns-in_err-hexadecimal_number-clause-printed g c start text h =
    let p = err_from_is_err_and c.from_residual.result c.from_residual.ensures.1 in
    rw (p.1, p.2) (loses_front (g.W.Write.contents c.args.output.now) (g.W.Write.contents c.hexadecimal_number.new.output)
    c.args.printer.now (codes "operation 0x" ++ hexadecimal c.args.offset) (codes " ") _ c.in_err-hexadecimal_number.ensures.printed start text h)

pub returns-clause-printed : goal.returns-clause-printed
unfolding operation_start
returns-clause-printed g c =
    prints_then (g.W.Write.contents c.args.output.now) (g.W.Write.contents c.hexadecimal_number.new.output)
    (g.W.Write.contents c.put.new.output) c.args.printer.now c.hexadecimal_number.new.self c.put.new.self
    (codes "operation 0x" ++ hexadecimal c.args.offset) (codes " ") c.put.result
    c.in_ok-hexadecimal_number.ensures.printed c.put.ensures.printed
