use Rattle.std.proofs.Common.{[], ◌∷◌, ◌++◌, refl}
use Rattle.std.proofs.lemmas.Result.{err_from_is_err_and}
use Rattle.dl_print.specs.HeaderFields.{field_line, number_text}
use Rattle.dl_print.proofs.Outs.{TellsOut-part}
use Rattle.dl_print.proofs.output.Printer.field.Goals as goal

pub returns-in_err-number-clause-printed : goal.returns-in_err-number-clause-printed
unfolding field_line
returns-in_err-number-clause-printed g c = λ start text h.
    let p = err_from_is_err_and c.from_residual-in_err-number.result c.from_residual-in_err-number.ensures.1 in
    let name = c.args.name.now in
    let value = number_text c.args.number in
    let tells = c.in_err-number.ensures.printed start _ (c.in_ok-put.ensures.printed start text h) in
    rw (p.1, p.2) (TellsOut-part start _ text name value (10 ∷ []) (name ++ value ++ 10 ∷ []) _ refl tells)
