use Rattle.std.proofs.Common.{codes}
use Rattle.std.proofs.lemmas.Result.{err_from_is_err_and}
use Rattle.dl_print.specs.HeaderFields.{field_line, instructions_text, operations_text}
use Rattle.dl_print.proofs.Outs.{Prints-both, TellsOut-front}
use Rattle.dl_print.proofs.output.Printer.instructions.Goals as goal

pub returns-in_err-byte_field-clause-printed : goal.returns-in_err-byte_field-clause-printed
unfolding instructions_text
returns-in_err-byte_field-clause-printed g c = λ start text h.
    let p = err_from_is_err_and c.from_residual.result c.from_residual.ensures.1 in
    let least = field_line (codes "minimum_instruction_length") c.args.params.now.minimum_instruction_length in
    let most = operations_text c.args.params.now in
    rw (p.1, p.2) (TellsOut-front start _ text least most _ (c.in_err-byte_field.ensures.printed start text h))

pub returns-clause-printed : goal.returns-clause-printed
unfolding instructions_text
returns-clause-printed g c =
    let least = field_line (codes "minimum_instruction_length") c.args.params.now.minimum_instruction_length in
    let most = operations_text c.args.params.now in
    Prints-both _ _ _ _ _ _ _ least most c.in_ok-byte_field.ensures.printed c.operations.ensures.printed
