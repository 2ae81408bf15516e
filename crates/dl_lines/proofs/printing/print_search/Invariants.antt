-- The lines so far are printed.
use Rattle.std.proofs.Common.{◌-◌, ◌≤◌, [], length, take}
use Rattle.std.specs.Prelude.{flat_map}
use Rattle.dl_print.specs.Output.{PrintsMore}
use Rattle.dl_print.specs.Text.{line}
use Rattle.dl_lines.specs.Answers.{told_once}
use Rattle.dl_lines.specs.Lines.{place_text}
use Rattle.dl_lines.specs.Printing.{found_places}
use Rattle.dl_lines.proofs.printing.print_search.Given as goal

abbrev pub invariant-loop-number : goal.invariant-loop-number
invariant-loop-number g l = record {
  within : l.number ≤ length l.search.kept.places.items;
  printed : PrintsMore (g.W.Write.contents l.initial.output) (g.W.Write.contents l.output) l.initial.printer l.printer
      (flat_map (λ q. line (place_text q)) (told_once [] (take l.number (found_places l.search))));
}

abbrev pub decreases-loop-number : goal.decreases-loop-number
decreases-loop-number g l = length l.search.kept.places.items - l.number
