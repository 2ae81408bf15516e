use Rattle.std.proofs.Common.{◌++◌, ◌∙◌, ap}
use Rattle.std.proofs.lemmas.Result.{err_from_is_err_and}
use Rattle.dl_print.specs.Printed.{Printed}
use Rattle.dl_print.specs.Text.{unit_line}
use Rattle.dl_print.proofs.Outs.{HasPrinted-held, TellsOut-more}
use Rattle.dl_print.proofs.output.Printer.unit.Goals as goal

pub returns-in_err-make_room-clause-printed : goal.returns-in_err-make_room-clause-printed
returns-in_err-make_room-clause-printed g c = λ start text h.
    let p = err_from_is_err_and c.from_residual.result c.from_residual.ensures.1 in
    rw (
      p.1,
      p.2,
    ) (TellsOut-more start _ text (unit_line c.args.offset c.args.params.now) _
    (c.in_err-make_room.ensures.printed start text h))

pub returns-clause-printed : goal.returns-clause-printed
returns-clause-printed g c = λ start text h.
    let more = unit_line c.args.offset c.args.params.now in
    HasPrinted-held start _ text more _ _ (c.in_ok-make_room.ensures.printed start text h)
    (c.write_unit_line-self-inside.ensures.written ∙ ap (λ (p : Printed). p.pending ++ more) c.self.view_is)
    (ap (λ (p : Printed). p.out) c.self.view_is)
