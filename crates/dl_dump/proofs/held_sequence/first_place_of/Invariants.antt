-- No row came so far.
use Rattle.std.proofs.Common.{◌≡◌, drop}
use Rattle.dl_look.specs.Answer.{first_place}
use Rattle.dl_dump.specs.RangeText.{rows_held}
use Rattle.dl_dump.proofs.held_sequence.first_place_of.Given as goal

abbrev pub invariant-loop-item : goal.invariant-loop-item
invariant-loop-item l = first_place (rows_held l.items) ≡ first_place (rows_held (drop l.item-index l.items))
