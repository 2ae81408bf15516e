use Rattle.std.proofs.Common.{◌≡◌, ℕ, ◌<◌, ◌≤◌, length, get_or, vec_capacity}
use Rattle.dl_look.specs.Slots.{no_place, slot_place, slot_number}
use Rattle.dl_look.proofs.slots.sorted.Given as goal

abbrev pub invariant-loop-number : goal.invariant-loop-number
invariant-loop-number g l =
    record {
      count : length l.slots.items ≡ l.number;
      capacity : length l.places ≤ vec_capacity l.slots;
      numbers : (j : ℕ) → j < l.number → slot_number l.slots.items j ≡ j;
      places : (j : ℕ) → j < l.number → slot_place l.slots.items j ≡ get_or l.places j no_place;
    }
