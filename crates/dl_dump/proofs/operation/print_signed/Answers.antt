use Rattle.std.proofs.Common.{w64}
use Rattle.std.proofs.lemmas.Int.{to_z-of_z}
use Rattle.std.proofs.lemmas.Result.{err_from_is_err_and}
use Rattle.dl_print.specs.HeaderFields.{signed_text}
use Rattle.dl_dump.specs.OperationText.{signed_operand_text}
use Rattle.dl_path.proofs.PrintLemmas.{loses_front, prints_then}
use Rattle.dl_dump.proofs.operation.print_signed.Goals as goal

pub returns-in_err-put-clause-printed : goal.returns-in_err-put-clause-printed
unfolding signed_operand_text
returns-in_err-put-clause-printed g c start text h =
    let p = err_from_is_err_and c.from_residual.result c.from_residual.ensures.1 in
    rw (p.1, p.2) (loses_front (g.W.Write.contents c.args.output.now) (g.W.Write.contents c.put.new.output)
    c.args.printer.now (c.args.name.now) (signed_text c.args.operand) _ c.in_err-put.ensures.printed start text h)

pub returns-clause-printed : goal.returns-clause-printed
unfolding signed_operand_text
returns-clause-printed g c =
    let same = to_z-of_z w64 c.args.operand (record { sfits = c.ranges.operand.sfits }) in
    prints_then (g.W.Write.contents c.args.output.now) (g.W.Write.contents c.put.new.output)
    (g.W.Write.contents c.signed.new.output) c.args.printer.now c.put.new.self c.signed.new.self c.args.name.now
    (signed_text c.args.operand) c.signed.result c.in_ok-put.ensures.printed (rw same at c.signed.ensures.printed)
