use Rattle.std.proofs.Common.{[], ◌∷◌, ◌++◌, refl, flat_map}
use Rattle.std.proofs.lemmas.Result.{err_from_is_err_and}
use Rattle.dl_print.specs.HeaderFields.{numbers_line, number_text}
use Rattle.dl_print.proofs.Outs.{TellsOut-front, TellsOut-part}
use Rattle.dl_print.proofs.output.Printer.numbers_field.Goals as goal

pub returns-in_err-put-clause-printed : goal.returns-in_err-put-clause-printed
unfolding numbers_line
returns-in_err-put-clause-printed g c = λ start text h.
    let p = err_from_is_err_and c.from_residual.result c.from_residual.ensures.1 in
    let name = c.args.name.now in
    let value = flat_map number_text c.args.numbers.now in
    rw (p.1, p.2) (TellsOut-front start _ text (name ++ value) (10 ∷ []) _
    (TellsOut-front start _ text name value _ (c.in_err-put.ensures.printed start text h)))

pub returns-in_err-numbers-clause-printed : goal.returns-in_err-numbers-clause-printed
unfolding numbers_line
returns-in_err-numbers-clause-printed g c = λ start text h.
    let p = err_from_is_err_and c.from_residual-in_err-numbers.result c.from_residual-in_err-numbers.ensures.1 in
    let name = c.args.name.now in
    let value = flat_map number_text c.args.numbers.now in
    let tells = c.in_err-numbers.ensures.printed start _ (c.in_ok-put.ensures.printed start text h) in
    rw (p.1, p.2) (TellsOut-part start _ text name value (10 ∷ []) (name ++ value ++ 10 ∷ []) _ refl tells)
