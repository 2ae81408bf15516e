-- The fronts so far were printed.
use Rattle.std.proofs.Common.{◌≤◌, ◌-◌, drop, length}
use Rattle.dl_path.specs.Shown.{shown}
use Rattle.dl_path.proofs.PrintLemmas.{Fronts}
use Rattle.dl_path.proofs.shown.print_shown.Given as goal

abbrev pub invariant-loop-at : goal.invariant-loop-at
invariant-loop-at g l = record {
  within : l.at ≤ length l.text;
  printed : Fronts (g.W.Write.contents l.initial.output) (g.W.Write.contents l.output) l.initial.printer l.printer
      (shown l.text) (shown (drop l.at l.text));
}

abbrev pub decreases-loop-at : goal.decreases-loop-at
decreases-loop-at g l = length l.text - l.at
