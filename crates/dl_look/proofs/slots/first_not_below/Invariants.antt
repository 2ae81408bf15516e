use Rattle.std.proofs.Common.{◌-◌, ◌≡◌, ℕ, ◌<◌, ◌≤◌, length, true, false}
use Rattle.dl_look.specs.Answer.{is_below}
use Rattle.dl_look.specs.Slots.{slot_place}
use Rattle.dl_look.proofs.slots.first_not_below.Given as goal

abbrev pub invariant-loop-low : goal.invariant-loop-low
invariant-loop-low l =
    record {
      apart : l.low ≤ l.high;
      within : l.high ≤ length l.slots;
      below : (j : ℕ) → j < l.low → is_below (slot_place l.slots j) l.place ≡ true;
      rest : (j : ℕ) → l.high ≤ j → j < length l.slots → is_below (slot_place l.slots j) l.place ≡ false;
    }

abbrev pub decreases-loop-low : goal.decreases-loop-low
decreases-loop-low l = l.high - l.low
