use Rattle.std.proofs.lemmas.Result.{err_from_is_err_and}
use Rattle.dl_print.specs.HeaderFields.{number_text}
use Rattle.dl_dump.specs.OperationText.{operand_text}
use Rattle.dl_path.proofs.PrintLemmas.{loses_front}
use Rattle.dl_dump.proofs.operation.print_operand.Goals as goal

pub returns-in_err-put-clause-printed : goal.returns-in_err-put-clause-printed
unfolding operand_text
returns-in_err-put-clause-printed g c start text h =
    let p = err_from_is_err_and c.from_residual.result c.from_residual.ensures.1 in
    rw (p.1, p.2) (loses_front (g.W.Write.contents c.args.output.now) (g.W.Write.contents c.put.new.output)
    c.args.printer.now (c.args.name.now) (number_text c.args.operand) _ c.in_err-put.ensures.printed start text h)
