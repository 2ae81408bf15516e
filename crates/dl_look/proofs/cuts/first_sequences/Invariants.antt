use Rattle.std.proofs.Common.{◌≡◌, ℕ, ◌+◌, ◌<◌, length, take, get_or, None, is_none}
use Rattle.dl_look.specs.Cuts.{first_from}
use Rattle.dl_look.specs.Links.{IsLinked, is_open}
use Rattle.dl_look.specs.Slots.{slot_place}
use Rattle.dl_look.proofs.cuts.first_sequences.Given as goal

abbrev pub invariant-loop-i : goal.invariant-loop-i
invariant-loop-i g l =
    record {
      linked : IsLinked l.links;
      links : length l.links.next.items ≡ length l.sequences.items + 1;
      count : length l.sequences.items ≡ length l.slots;
      opens : (j : ℕ) → j < length l.sequences.items
          → is_open l.links.next.items j ≡ is_none (get_or l.sequences.items j None);
      first : (j : ℕ) → j < length l.slots
          → get_or l.sequences.items j None ≡ first_from 0 (take l.i l.spans) (slot_place l.slots j);
    }
