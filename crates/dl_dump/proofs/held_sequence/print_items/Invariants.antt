-- The items so far were printed.
use Rattle.std.proofs.Common.{◌≡◌, take}
use Rattle.dl_print.specs.Output.{PrintsMore}
use Rattle.dl_print.specs.ValueText.{strings_of}
use Rattle.dl_dump.specs.DetailText.{reached_after, shown_after}
use Rattle.dl_dump.specs.RangeText.{visits_held}
use Rattle.dl_dump.proofs.held_sequence.print_items.Given as goal

abbrev pub invariant-loop-item : goal.invariant-loop-item
invariant-loop-item g l = record {
  reached : l.now ≡ reached_after (record { details = l.details; strings = strings_of l.strings }) l.fn.at
      (visits_held l.header (take l.item-index l.items));
  printed : PrintsMore (g.W.Write.contents l.initial.output) (g.W.Write.contents l.output) l.initial.printer l.printer
      (shown_after (record { details = l.details; strings = strings_of l.strings }) l.fn.at
      (visits_held l.header (take l.item-index l.items)));
}
