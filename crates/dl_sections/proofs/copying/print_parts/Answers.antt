use Rattle.dl_print.specs.Output.{TellsOut}
use Rattle.dl_sections.proofs.Names.{◌++◌, append_assoc, err_from_is_err_and, HasPrinted, List, MatchResult, subst}
use Rattle.dl_sections.proofs.Names.{TellsOut-front, ℕ}
use Rattle.dl_sections.proofs.copying.print_parts.Goals as goal

pub returns-in_err-put-clause-printed : goal.returns-in_err-put-clause-printed
returns-in_err-put-clause-printed g c start text h =
    let p = err_from_is_err_and c.from_residual.result c.from_residual.ensures.1 in
    rw (p.1, p.2) (TellsOut-front start _ text c.args.first.now c.args.last.now _
    (c.in_err-put.ensures.printed start text h))

pub returns-clause-printed : goal.returns-clause-printed
returns-clause-printed g c start text h =
    let first = c.args.first.now in
    let last = c.args.last.now in
    let printed = c.put-2.ensures.printed start (text ++ first) (c.in_ok-put.ensures.printed start text h) in
    subst (λ (l : List ℕ). MatchResult c.put-2.result
    (λ _. HasPrinted start (g.W.Write.contents c.put-2.new.output) l c.put-2.new.self)
    (λ f. TellsOut start (g.W.Write.contents c.put-2.new.output) l f)) (append_assoc text first last) printed
