use Rattle.std.proofs.Common.{◌≡◌, ℕ, ◌<◌, true, false, length, get_or}
use Rattle.dl_look.specs.Links.{is_open, is_sealed}
use Rattle.dl_look.proofs.links.Links.seal.Given as goal

abbrev pub invariant-loop-slot : goal.invariant-loop-slot
invariant-loop-slot l =
    record {
      same : l.self.next.items ≡ l.initial.self.next.items;
      count : length l.self.sealed.items ≡ length l.initial.self.sealed.items;
      done : (e : ℕ) → e < l.slot-index → is_sealed l.self.sealed.items (get_or l.closed e 0) ≡ true;
      kept : (j : ℕ) → is_sealed l.initial.self.sealed.items j ≡ true → is_sealed l.self.sealed.items j ≡ true;
      shut : (j : ℕ) → j < length l.self.next.items → is_sealed l.self.sealed.items j ≡ true
          → is_open l.self.next.items j ≡ false;
    }
