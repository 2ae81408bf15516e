use Rattle.std.proofs.Common.{arith}
use Rattle.std.proofs.lemmas.Result.{err_from_is_err_and}
use Rattle.dl_print.specs.Spellings.{spelled}
use Rattle.dl_print.proofs.Pieces.{PrintsMore-piece, TellsOut-piece}
use Rattle.dl_print.proofs.output.Printer.spelled.Goals as goal

pub returns-in_err-spelled_part-clause-printed : goal.returns-in_err-spelled_part-clause-printed
returns-in_err-spelled_part-clause-printed g c = λ start text h.
    let p = err_from_is_err_and c.from_residual.result c.from_residual.ensures.1 in
    let i = c.loop-done.done in
    let tells = c.in_err-spelled_part.ensures.printed start _ (c.loop-done.invariant.printed start text h) in
    rw (
      p.1,
      p.2,
    ) (TellsOut-piece (spelled c.args.spelling) c.args.bytes.now i c.min-end.result (omega (arith, c.min-end.ensures))
    start _ text _ tells)

pub loop-done-preserved : goal.loop-done-preserved
loop-done-preserved g c =
    let l = c.loop-done in
    let w = c.args.bytes.now in
    record {
      within = omega (arith, c.min-end.ensures);
      printed =
          PrintsMore-piece (spelled c.args.spelling) w l.done c.min-end.result (omega (arith, c.min-end.ensures)) _ _ _
          _ _ _
          l.invariant.printed c.in_ok-spelled_part.ensures.printed;
    }
