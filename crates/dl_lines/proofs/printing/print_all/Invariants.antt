-- The lines so far are printed.
use Rattle.std.proofs.Common.{◌≡◌, ◌-◌, ◌≤◌, length, take}
use Rattle.dl_print.specs.Output.{PrintsMore}
use Rattle.dl_lines.specs.Printing.{found_by, searches_text}
use Rattle.dl_lines.proofs.printing.print_all.Given as goal

abbrev pub invariant-loop-number : goal.invariant-loop-number
invariant-loop-number g l = record {
  within : l.number ≤ length l.searches;
  printed : PrintsMore (g.W.Write.contents l.initial.output) (g.W.Write.contents l.output) l.initial.printer l.printer
      (searches_text (take l.number l.searches));
  found : l.found ≡ found_by (take l.number l.searches);
}

abbrev pub decreases-loop-number : goal.decreases-loop-number
decreases-loop-number g l = length l.searches - l.number
