use Rattle.std.proofs.Common.{◌∙◌, arith, sym}
use Rattle.dl_dirs.proofs.WalkLemmas.{awaits_known, awaits_one}
use Rattle.dl_dirs.proofs.walk.awaited.Goals as goal

pub returns-in-Found : goal.returns-in-Found
returns-in-Found c =
    let l = c.in-Found.unit in
    let is = sym c.unit_length.ensures ∙ c.in-Found.is in
    let less = c.requires l is in
    awaits_known c.args.order c.args.front.now l c.min.result is (omega (arith, less)) (omega (arith, less))

pub returns-in_default : goal.returns-in_default
returns-in_default c =
    awaits_one c.args.order c.args.front.now (λ l is. c.in_default.not-Found l (c.unit_length.ensures ∙ is))
