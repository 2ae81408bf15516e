use Rattle.std.proofs.lemmas.Result.{err_from_is_err_and}
use Rattle.std.proofs.Common.{◌++◌, codes}
use Rattle.dl_print.specs.Digits.{hexadecimal}
use Rattle.dl_path.proofs.PrintLemmas.{loses_front}
use Rattle.dl_dump.proofs.operation.print_number.Goals as goal

pub returns-in_err-put-clause-printed : goal.returns-in_err-put-clause-printed
returns-in_err-put-clause-printed g c start text h =
    let p = err_from_is_err_and c.from_residual.result c.from_residual.ensures.1 in
    rw (p.1, p.2) (loses_front (g.W.Write.contents c.args.output.now) (g.W.Write.contents c.put.new.output)
    c.args.printer.now (c.args.name.now) (codes " 0x" ++ hexadecimal c.args.number) _ c.in_err-put.ensures.printed start text h)
