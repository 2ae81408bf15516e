use Rattle.std.proofs.Common.{◌≡◌, ℕ, ◌<◌, ◌≤◌, ◌-◌, false, length}
use Rattle.dl_look.specs.Links.{IsLinked, is_open}
use Rattle.dl_look.proofs.links.Links.first_open.Given as goal

abbrev pub invariant-loop-at : goal.invariant-loop-at
invariant-loop-at l =
    record {
      linked : IsLinked l.self;
      count : length l.self.next.items ≡ length l.initial.self.next.items;
      same : (j : ℕ) → j < length l.initial.self.next.items
          → is_open l.self.next.items j ≡ is_open l.initial.self.next.items j;
      sealed : l.self.sealed.items ≡ l.initial.self.sealed.items;
      ahead : l.from ≤ l.at;
      within : l.at < length l.initial.self.next.items;
      closed : (j : ℕ) → l.from ≤ j → j < l.at → is_open l.self.next.items j ≡ false;
    }

abbrev pub decreases-loop-at : goal.decreases-loop-at
decreases-loop-at l = length l.initial.self.next.items - l.at
