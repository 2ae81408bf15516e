use Rattle.std.proofs.Common.{codes}
use Rattle.std.proofs.lemmas.Result.{err_from_is_err_and}
use Rattle.dl_print.specs.HeaderFields.{field_line, lengths_text}
use Rattle.dl_print.proofs.Outs.{Prints-both, TellsOut-front}
use Rattle.dl_print.proofs.output.Printer.lengths.Goals as goal

pub returns-in_err-field-clause-printed : goal.returns-in_err-field-clause-printed
unfolding lengths_text
returns-in_err-field-clause-printed g c = λ start text h.
    let p = err_from_is_err_and c.from_residual.result c.from_residual.ensures.1 in
    let unit = field_line (codes "unit_length") c.args.lengths.now.unit_length in
    let header = field_line (codes "header_length") c.args.lengths.now.header_length in
    rw (p.1, p.2) (TellsOut-front start _ text unit header _ (c.in_err-field.ensures.printed start text h))

pub returns-clause-printed : goal.returns-clause-printed
unfolding lengths_text
returns-clause-printed g c =
    let unit = field_line (codes "unit_length") c.args.lengths.now.unit_length in
    let header = field_line (codes "header_length") c.args.lengths.now.header_length in
    Prints-both _ _ _ _ _ _ _ unit header c.in_ok-field.ensures.printed c.field-2.ensures.printed
