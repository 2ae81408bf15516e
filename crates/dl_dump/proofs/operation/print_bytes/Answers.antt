use Rattle.std.proofs.lemmas.Result.{err_from_is_err_and}
use Rattle.dl_print.specs.Digits.{hexadecimal_bytes}
use Rattle.dl_dump.specs.OperationText.{start_text}
use Rattle.dl_path.proofs.PrintLemmas.{loses_front}
use Rattle.dl_dump.proofs.operation.print_bytes.Goals as goal

pub returns-in_err-print_start-clause-printed : goal.returns-in_err-print_start-clause-printed
returns-in_err-print_start-clause-printed g c start text h =
    let p = err_from_is_err_and c.from_residual.result c.from_residual.ensures.1 in
    rw (p.1, p.2) (loses_front (g.W.Write.contents c.args.output.now) (g.W.Write.contents c.print_start.new.output)
    c.args.printer.now (start_text c.args.at.now.opcode c.args.at.now.offset) (hexadecimal_bytes c.args.bytes.now) _ c.in_err-print_start.ensures.printed start text h)
