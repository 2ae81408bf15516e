use Rattle.std.proofs.Common.{w64, w8, SFits, ℤ, to_z, of_z, ap, ◌∙◌, [], ◌∷◌, ◌++◌, refl}
use Rattle.std.proofs.Math.Facts.{sfits_widen, to_z-of_z}
use Rattle.std.proofs.lemmas.Result.{err_from_is_err_and}
use Rattle.dl_print.specs.HeaderFields.{signed_line, signed_text}
use Rattle.dl_print.proofs.Outs.{Prints-both, PrintsMore-then, TellsOut-front, TellsOut-part}
use Rattle.dl_print.proofs.output.Printer.signed_field.Goals as goal

pub returns-in_err-put-clause-printed : goal.returns-in_err-put-clause-printed
unfolding signed_line
returns-in_err-put-clause-printed g c = λ start text h.
    let p = err_from_is_err_and c.from_residual.result c.from_residual.ensures.1 in
    let name = c.args.name.now in
    let value = signed_text c.args.number in
    let tells = c.in_err-put.ensures.printed start text h in
    rw (p.1, p.2) (TellsOut-front start _ text (name ++ value) (10 ∷ []) _
    (TellsOut-front start _ text name value _ tells))

pub returns-in_err-signed-clause-printed : goal.returns-in_err-signed-clause-printed
unfolding signed_line
returns-in_err-signed-clause-printed g c = λ start text h.
    let p = err_from_is_err_and c.from_residual-in_err-signed.result c.from_residual-in_err-signed.ensures.1 in
    let fits : SFits w8 c.args.number = record { sfits = c.ranges.number.sfits } in
    let same = ap (λ (z : ℤ). to_z w64 (of_z w64 z)) (c.from.ensures ∙ to_z-of_z fits)
    ∙ to_z-of_z (sfits_widen {w = w8} {w' = w64} tt fits) in
    let name = c.args.name.now in
    let value = signed_text c.args.number in
    let tells = rw same at (c.in_err-signed.ensures.printed start _ (c.in_ok-put.ensures.printed start text h)) in
    rw (p.1, p.2) (TellsOut-part start _ text name value (10 ∷ []) (name ++ value ++ 10 ∷ []) _ refl tells)

pub returns-clause-printed : goal.returns-clause-printed
unfolding signed_line
returns-clause-printed g c =
    let fits : SFits w8 c.args.number = record { sfits = c.ranges.number.sfits } in
    let same = ap (λ (z : ℤ). to_z w64 (of_z w64 z)) (c.from.ensures ∙ to_z-of_z fits)
    ∙ to_z-of_z (sfits_widen {w = w8} {w' = w64} tt fits) in
    let name = c.args.name.now in
    let value = signed_text c.args.number in
    let two = rw same at c.in_ok-signed.ensures.printed in
    let both = PrintsMore-then _ _ _ _ _ _ name value (name ++ value) refl c.in_ok-put.ensures.printed two in
    Prints-both _ _ _ _ _ _ _ (name ++ value) (10 ∷ []) both c.put-2.ensures.printed
