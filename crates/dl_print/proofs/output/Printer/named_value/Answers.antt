use Rattle.std.proofs.lemmas.Result.{err_from_is_err_and}
use Rattle.dl_table.specs.Held.{value_lent}
use Rattle.dl_print.specs.ValueText.{value_text, strings_of}
use Rattle.dl_print.proofs.Outs.{TellsOut-front}
use Rattle.dl_print.proofs.output.Printer.named_value.Goals as goal

pub returns-in_err-value_start-clause-printed : goal.returns-in_err-value_start-clause-printed
returns-in_err-value_start-clause-printed g c = λ start text h.
    let p = err_from_is_err_and c.from_residual.result c.from_residual.ensures.1 in
    let value = value_text (strings_of c.args.strings.now) (value_lent c.args.value) in
    rw (p.1, p.2) (TellsOut-front start _ text _ value _ (c.in_err-value_start.ensures.printed start text h))
