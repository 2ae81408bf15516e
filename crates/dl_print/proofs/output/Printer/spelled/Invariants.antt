-- The bytes so far were printed.
use Rattle.std.proofs.Common.{◌-◌, ◌≤◌, length, take, flat_map}
use Rattle.dl_print.specs.Spellings.{spelled}
use Rattle.dl_print.specs.Output.{PrintsMore}
use Rattle.dl_print.proofs.output.Printer.spelled.Given as goal

abbrev pub invariant-loop-done : goal.invariant-loop-done
invariant-loop-done g l = record {
  within : l.done ≤ length l.bytes;
  printed : PrintsMore (g.W.Write.contents l.initial.output) (g.W.Write.contents l.output) l.initial.self l.self
      (flat_map (spelled l.spelling) (take l.done l.bytes));
}

abbrev pub decreases-loop-done : goal.decreases-loop-done
decreases-loop-done g l = length l.bytes - l.done
