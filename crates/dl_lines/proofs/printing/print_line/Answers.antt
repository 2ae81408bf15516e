use Rattle.std.proofs.Common.{[], ◌∷◌}
use Rattle.dl_lines.specs.Lines.{place_text}
use Rattle.dl_lines.specs.Printing.{found_place}
use Rattle.std.proofs.lemmas.Result.{err_from_is_err_and}
use Rattle.dl_path.proofs.PrintLemmas.{loses_front, prints_then}
use Rattle.dl_lines.proofs.printing.print_line.Goals as goal

pub returns-in_err-print_place-clause-printed : goal.returns-in_err-print_place-clause-printed
returns-in_err-print_place-clause-printed g c start text h =
    let p = err_from_is_err_and c.from_residual.result c.from_residual.ensures.1 in
    rw (p.1, p.2) (loses_front (g.W.Write.contents c.args.output.now) (g.W.Write.contents c.print_place.new.output) c.args.printer.now
    (place_text (found_place c.args.search.now c.args.place.now)) (10 ∷ []) _ c.in_err-print_place.ensures.printed start text h)

pub returns-clause-printed : goal.returns-clause-printed
returns-clause-printed g c =
    prints_then (g.W.Write.contents c.args.output.now) (g.W.Write.contents c.print_place.new.output)
    (g.W.Write.contents c.put.new.output) c.args.printer.now c.print_place.new.printer c.put.new.self
    (place_text (found_place c.args.search.now c.args.place.now)) (10 ∷ []) c.put.result
    c.in_ok-print_place.ensures.printed c.put.ensures.printed
