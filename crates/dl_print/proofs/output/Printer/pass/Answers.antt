use Rattle.std.proofs.Common.{◌≡◌, take, [], ap, ◌∙◌}
use Rattle.dl_print.specs.Printed.{Printed}
use Rattle.std.proofs.lemmas.Result.{err_from_is_err_and}
use Rattle.dl_print.proofs.Outs.{HasPrinted-more}
use Rattle.dl_print.proofs.output.Printer.pass.Goals as goal

pub returns-in_err-self-inside-clause-printed : goal.returns-in_err-self-inside-clause-printed
returns-in_err-self-inside-clause-printed g c = λ start text h.
    let p = err_from_is_err_and c.from_residual.result c.from_residual.ensures.1 in
    let more = rw (c.requires.empty, ← c.self.view_is) at (HasPrinted-more start _ text c.args.bytes.now _ _ h) in
    rw (p.1, p.2) (c.in_err-self-inside.ensures.printed start _ more)

pub returns-clause-printed : goal.returns-clause-printed
returns-clause-printed g c = λ start text h.
    let none : take c.self.inside.held c.self.inside.buffer ≡ [] =
    ap (λ (p : Printed). p.pending) c.self.view_is ∙ c.requires.empty in
    let more = rw (c.requires.empty, ← c.self.view_is) at (HasPrinted-more start _ text c.args.bytes.now _ _ h) in
    rw none (c.in_ok-self-inside.ensures.printed start _ more)
