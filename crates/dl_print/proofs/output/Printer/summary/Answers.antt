use Rattle.std.proofs.lemmas.Result.{err_from_is_err_and}
use Rattle.dl_print.specs.Text.{summary_line}
use Rattle.dl_print.proofs.Outs.{TellsOut-more}
use Rattle.dl_print.proofs.output.Printer.summary.Goals as goal

pub returns-in_err-make_room-clause-printed : goal.returns-in_err-make_room-clause-printed
returns-in_err-make_room-clause-printed g c = λ start text h.
    let p = err_from_is_err_and c.from_residual.result c.from_residual.ensures.1 in
    rw (
      p.1,
      p.2,
    ) (TellsOut-more start _ text (summary_line c.args.summary.now) _
    (c.in_err-make_room.ensures.printed start text h))
