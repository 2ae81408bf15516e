-- The items so far were passed.
use Rattle.std.proofs.Common.{◌≡◌, take}
use Rattle.dl_print.specs.ValueText.{Strings}
use Rattle.dl_dump.specs.DetailText.{reached_after}
use Rattle.dl_dump.specs.RangeText.{visits_held}
use Rattle.dl_dump.proofs.held_sequence.pass_items.Given as goal

abbrev pub invariant-loop-item : goal.invariant-loop-item
invariant-loop-item l = (strings : Strings)
    → l.now ≡ reached_after (record { details = l.details; strings = strings }) l.fn.at
    (visits_held l.header (take l.item-index l.items))
