use Rattle.std.proofs.Common.{w8, ◌++◌, ◌-ℤ◌, codes, pos}
use Rattle.std.proofs.lemmas.Int.{to_z-of_z}
use Rattle.std.proofs.lemmas.Result.{err_from_is_err_and}
use Rattle.dl_rows.specs.declared.operation.Operation.TheVariants as op
use Rattle.dl_rows.specs.Matrix.{line_step}
use Rattle.dl_print.specs.Digits.{hexadecimal}
use Rattle.dl_path.proofs.PrintLemmas.{loses_front, loses_then, more_then, prints_then}
use Rattle.dl_dump.specs.OperationText.{address_step, operand_text, signed_operand_text, special_text}
use Rattle.dl_dump.specs.Reached.{op_index_with}
use Rattle.dl_dump.proofs.operation.print_special.Goals as goal

pub returns-in_err-hexadecimal_number-clause-printed : goal.returns-in_err-hexadecimal_number-clause-printed
unfolding special_text
returns-in_err-hexadecimal_number-clause-printed g c start text h =
    let e = err_from_is_err_and c.from_residual.result c.from_residual.ensures.1 in
    let params = c.args.header.now.params in
    let i = c.args.op_index in
    let b = c.args.opcode in
    let name = codes " special 0x" ++ hexadecimal b in
    let address = operand_text (codes " address") (address_step params i b) in
    let index = signed_operand_text (codes " op_index") (pos (op_index_with params i (op.Special b)) -ℤ pos i) in
    let lines = signed_operand_text (codes " line") (line_step params (op.Special b)) in
    let old = g.W.Write.contents c.args.output.now in
    let named = g.W.Write.contents c.hexadecimal_number.new.output in
    rw (e.1, e.2) (loses_front old named c.args.printer.now (name ++ address ++ index) lines _
    (loses_front old named c.args.printer.now (name ++ address) index _
    (loses_front old named c.args.printer.now name address _ (rw c.from.ensures at c.in_err-hexadecimal_number.ensures.printed))) start text h)

pub returns-in_err-print_operand-clause-printed : goal.returns-in_err-print_operand-clause-printed
unfolding special_text
returns-in_err-print_operand-clause-printed g c start text h =
    let e = err_from_is_err_and c.from_residual-in_err-print_operand.result
    c.from_residual-in_err-print_operand.ensures.1 in
    let params = c.args.header.now.params in
    let i = c.args.op_index in
    let b = c.args.opcode in
    let name = codes " special 0x" ++ hexadecimal b in
    let address = operand_text (codes " address") (address_step params i b) in
    let index = signed_operand_text (codes " op_index") (pos (op_index_with params i (op.Special b)) -ℤ pos i) in
    let lines = signed_operand_text (codes " line") (line_step params (op.Special b)) in
    let old = g.W.Write.contents c.args.output.now in
    let named = g.W.Write.contents c.hexadecimal_number.new.output in
    let new = g.W.Write.contents c.print_operand.new.output in
    rw (e.1, e.2) (loses_front old new c.args.printer.now (name ++ address ++ index) lines _
    (loses_front old new c.args.printer.now (name ++ address) index _
    (loses_then old named new c.args.printer.now c.hexadecimal_number.new.self name address _
    (rw c.from.ensures at c.in_ok-hexadecimal_number.ensures.printed) (rw (c.address_step.ensures, c.params-params.ensures.value) at c.in_err-print_operand.ensures.printed))) start text h)

pub returns-in_err-print_change-clause-printed : goal.returns-in_err-print_change-clause-printed
unfolding special_text
returns-in_err-print_change-clause-printed g c start text h =
    let e = err_from_is_err_and c.from_residual-in_err-print_change.result
    c.from_residual-in_err-print_change.ensures.1 in
    let params = c.args.header.now.params in
    let i = c.args.op_index in
    let b = c.args.opcode in
    let name = codes " special 0x" ++ hexadecimal b in
    let address = operand_text (codes " address") (address_step params i b) in
    let index = signed_operand_text (codes " op_index") (pos (op_index_with params i (op.Special b)) -ℤ pos i) in
    let lines = signed_operand_text (codes " line") (line_step params (op.Special b)) in
    let old = g.W.Write.contents c.args.output.now in
    let named = g.W.Write.contents c.hexadecimal_number.new.output in
    let mid = g.W.Write.contents c.print_operand.new.output in
    let new = g.W.Write.contents c.print_change.new.output in
    rw (e.1, e.2) (loses_front old new c.args.printer.now (name ++ address ++ index) lines _
    (loses_then old mid new c.args.printer.now c.print_operand.new.printer (name ++ address) index _
    (more_then old named mid c.args.printer.now c.hexadecimal_number.new.self c.print_operand.new.printer name address
    (rw c.from.ensures at c.in_ok-hexadecimal_number.ensures.printed) (rw (c.address_step.ensures, c.params-params.ensures.value) at c.in_ok-print_operand.ensures.printed))
    (rw (c.op_index_with-new.ensures, c.params-params.ensures.value) at c.in_err-print_change.ensures.printed)) start text h)

pub returns-clause-printed : goal.returns-clause-printed
unfolding special_text
returns-clause-printed g c =
    let params = c.args.header.now.params in
    let i = c.args.op_index in
    let b = c.args.opcode in
    let name = codes " special 0x" ++ hexadecimal b in
    let address = operand_text (codes " address") (address_step params i b) in
    let index = signed_operand_text (codes " op_index") (pos (op_index_with params i (op.Special b)) -ℤ pos i) in
    let lines = signed_operand_text (codes " line") (line_step params (op.Special b)) in
    let old = g.W.Write.contents c.args.output.now in
    let named = g.W.Write.contents c.hexadecimal_number.new.output in
    let mid = g.W.Write.contents c.print_operand.new.output in
    let between = g.W.Write.contents c.print_change.new.output in
    let new = g.W.Write.contents c.print_lines.new.output in
    prints_then old between new c.args.printer.now c.print_change.new.printer c.print_lines.new.printer
    (name ++ address ++ index) lines c.print_lines.result
    (more_then old mid between c.args.printer.now c.print_operand.new.printer c.print_change.new.printer (name ++ address)
    index
    (more_then old named mid c.args.printer.now c.hexadecimal_number.new.self c.print_operand.new.printer name address
    (rw c.from.ensures at c.in_ok-hexadecimal_number.ensures.printed) (rw (c.address_step.ensures, c.params-params.ensures.value) at c.in_ok-print_operand.ensures.printed))
    (rw (c.op_index_with-new.ensures, c.params-params.ensures.value) at c.in_ok-print_change.ensures.printed))
    (rw (
      c.saturating_sub-adjusted.ensures,
      c.params-params.ensures.value,
      to_z-of_z w8 params.line_base
          c.params-params.ensures.sound.line_base,
    ) at c.print_lines.ensures.printed)
