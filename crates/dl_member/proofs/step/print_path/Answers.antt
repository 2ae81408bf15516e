use Rattle.std.proofs.Common.{ℕ, List, ◌++◌, codes, append_assoc, subst, sym}
use Rattle.std.specs.Prelude.{MatchResult}
use Rattle.std.proofs.lemmas.Result.{err_from_is_err_and}
use Rattle.dl_path.specs.Shown.{shown}
use Rattle.dl_print.specs.Output.{HasPrinted, TellsOut}
use Rattle.dl_print.proofs.Outs.{TellsOut-front}
use Rattle.dl_member.proofs.step.print_path.Goals as goal

pub returns-in_err-print_shown-clause-printed : goal.returns-in_err-print_shown-clause-printed
returns-in_err-print_shown-clause-printed g c = λ start text h.
    let p = err_from_is_err_and c.from_residual.result c.from_residual.ensures.1 in
    rw (p.1, p.2, sym c.as_bytes.ensures.value) (TellsOut-front start (g.W.Write.contents c.print_shown.new.output) text (shown c.as_bytes.result.now) (codes ":\n") _
    (c.in_err-print_shown.ensures.printed start text h))

pub returns-clause-printed : goal.returns-clause-printed
returns-clause-printed g c = λ start text h.
    let now = g.W.Write.contents c.put.new.output in
    rw (sym c.as_bytes.ensures.value) (subst (λ (l : List ℕ). MatchResult c.put.result (λ _. HasPrinted start now l c.put.new.self) (λ f. TellsOut start now l f))
    (append_assoc text (shown c.as_bytes.result.now) (codes ":\n"))
    (c.put.ensures.printed start (text ++ shown c.as_bytes.result.now) (c.in_ok-print_shown.ensures.printed start text h)))
