use Rattle.std.proofs.Common.{codes, ◌++◌}
use Rattle.std.proofs.lemmas.Result.{err_from_is_err_and}
use Rattle.dl_print.specs.ValueText.{content_name}
use Rattle.dl_print.specs.HeaderFields.{form_name}
use Rattle.dl_print.proofs.Outs.{TellsOut-front}
use Rattle.dl_print.proofs.output.Printer.pair.Goals as goal

pub returns-in_err-value_start-clause-printed : goal.returns-in_err-value_start-clause-printed
returns-in_err-value_start-clause-printed g c = λ start text h.
    let p = err_from_is_err_and c.from_residual.result c.from_residual.ensures.1 in
    let start_text = codes " " ++ content_name c.args.pair.content ++ codes "=" in
    rw (p.1, p.2) (TellsOut-front start _ text start_text (form_name c.args.pair.form) _
    (c.in_err-value_start.ensures.printed start text h))
