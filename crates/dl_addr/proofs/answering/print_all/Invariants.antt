-- The lines so far are printed.
use Rattle.std.proofs.Common.{◌≡◌, ◌-◌, ◌≤◌, ℕ, List, Option, length, map, take}
use Rattle.dl_print.specs.Output.{PrintsMore}
use Rattle.dl_sections.specs.Section.{Visit}
use Rattle.dl_addr.specs.declared.locating.Locator.{Locator}
use Rattle.dl_look.specs.Asked.{looked_up}
use Rattle.dl_addr.specs.Locating.{IsMadeFor, Locating}
use Rattle.dl_addr.specs.Printing.{answer_for, found_by, seen_lines}
use Rattle.dl_addr.proofs.answering.print_all.Given as goal

abbrev pub invariant-loop-number : goal.invariant-loop-number
invariant-loop-number g l = record {
  within : l.number ≤ length l.question.asked.now;
  printed : (first : Locator g.row.M.Denot) (start held : Option (List ℕ)) (visits : List Visit)
      → Locating first l.locator start held visits
      → IsMadeFor first (map (looked_up l.question.base) l.question.asked.now)
      → PrintsMore (g.W.Write.contents l.initial.output) (g.W.Write.contents l.output) l.initial.printer l.printer
      (seen_lines l.question.style (answer_for first visits l.question.base) (take l.number l.question.asked.now));
  found : (first : Locator g.row.M.Denot) (start held : Option (List ℕ)) (visits : List Visit)
      → Locating first l.locator start held visits
      → IsMadeFor first (map (looked_up l.question.base) l.question.asked.now)
      → l.found ≡ found_by (answer_for first visits l.question.base) (take l.number l.question.asked.now);
}

abbrev pub decreases-loop-number : goal.decreases-loop-number
decreases-loop-number g l = length l.question.asked.now - l.number
