use Rattle.std.proofs.Common.{◌≡◌, ℕ, ◌<◌, ◌≤◌, length, get_or, vec_capacity}
use Rattle.dl_look.proofs.links.Links.build.Given as goal

abbrev pub invariant-loop-slot : goal.invariant-loop-slot
invariant-loop-slot g l =
    record {
      count : length l.next.items ≡ l.slot;
      capacity : l.count ≤ vec_capacity l.next;
      itself : (j : ℕ) → j < l.slot → get_or l.next.items j 0 ≡ j;
    }
