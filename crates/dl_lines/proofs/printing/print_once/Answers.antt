use Rattle.std.proofs.Common.{Bool, [], sym, ap, get_or, ◌∙◌}
use Rattle.std.specs.Prelude.{if◌then◌else◌}
use Rattle.dl_path.proofs.PrintLemmas.{prints_same}
use Rattle.dl_print.specs.Text.{line}
use Rattle.dl_lines.specs.Lines.{place_text}
use Rattle.dl_lines.specs.Places.{CodePlace}
use Rattle.dl_lines.specs.Printing.{found_place, found_places, no_place, once_text}
use Rattle.dl_lines.proofs.LineLemmas.{place_seen}
use Rattle.dl_lines.proofs.printing.print_once.Goals as goal

pub returns-clause-printed : goal.returns-clause-printed
returns-clause-printed g c =
    let s = c.args.search.now in
    let n = c.args.number in
    let place = c.index.result.now in
    prints_same (g.W.Write.contents c.args.output.now) (g.W.Write.contents c.print_line.new.output) c.args.printer.now
    c.print_line.new.printer (line (place_text (found_place s place))) (once_text s n) c.print_line.result
    (ap (λ (p : CodePlace). line (place_text p)) (ap (found_place s) c.index.ensures
    ∙ sym (place_seen s s.kept.places.items n place c.requires.within))
    ∙ ap (λ (b : Bool). if b then [] else line (place_text (get_or (found_places s) n no_place)))
    (sym c.if-is_repeated.false ∙ c.is_repeated.ensures)) c.print_line.ensures.printed
