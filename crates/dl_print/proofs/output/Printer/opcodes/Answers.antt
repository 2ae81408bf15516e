use Rattle.std.proofs.Common.{codes}
use Rattle.std.proofs.lemmas.Result.{err_from_is_err_and}
use Rattle.dl_print.specs.HeaderFields.{field_line, numbers_line, opcodes_text}
use Rattle.dl_print.proofs.Outs.{Prints-both, TellsOut-front}
use Rattle.dl_print.proofs.output.Printer.opcodes.Goals as goal

pub returns-in_err-byte_field-clause-printed : goal.returns-in_err-byte_field-clause-printed
unfolding opcodes_text
returns-in_err-byte_field-clause-printed g c = λ start text h.
    let p = err_from_is_err_and c.from_residual.result c.from_residual.ensures.1 in
    let base = field_line (codes "opcode_base") c.args.params.now.opcode_base in
    let lengths = numbers_line (codes "lengths") c.args.params.now.lengths.items in
    rw (p.1, p.2) (TellsOut-front start _ text base lengths _ (c.in_err-byte_field.ensures.printed start text h))

pub returns-clause-printed : goal.returns-clause-printed
unfolding opcodes_text
returns-clause-printed g c =
    let base = field_line (codes "opcode_base") c.args.params.now.opcode_base in
    let lengths = numbers_line (codes "lengths") c.args.params.now.lengths.items in
    Prints-both _ _ _ _ _ _ _ base lengths c.in_ok-byte_field.ensures.printed
    (rw c.as_slice.ensures.value at c.numbers_field.ensures.printed)
