use Rattle.std.proofs.Common.{◌≡◌, ℕ, ◌<◌, ◌⊎◌, true, length, get_or}
use Rattle.dl_look.specs.Links.{is_sealed}
use Rattle.dl_look.proofs.links.Links.reopen.Given as goal

abbrev pub invariant-loop-slot : goal.invariant-loop-slot
invariant-loop-slot l =
    record {
      sealed : l.self.sealed.items ≡ l.initial.self.sealed.items;
      count : length l.self.next.items ≡ length l.initial.self.next.items;
      done : (e : ℕ) → e < l.slot-index → get_or l.self.next.items (get_or l.closed e 0) 0 ≡ get_or l.closed e 0;
      opened : (j : ℕ) → get_or l.initial.self.next.items j 0 ≡ j → get_or l.self.next.items j 0 ≡ j;
      kept : (j : ℕ) → is_sealed l.initial.self.sealed.items j ≡ true
          → get_or l.self.next.items j 0 ≡ get_or l.initial.self.next.items j 0;
      each : (j : ℕ) → j < length l.self.next.items → (get_or l.self.next.items j 0 ≡ j)
          ⊎ (get_or l.self.next.items j 0 ≡ get_or l.initial.self.next.items j 0);
    }
