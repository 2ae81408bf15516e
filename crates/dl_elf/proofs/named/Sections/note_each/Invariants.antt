use Rattle.std.proofs.Common.{◌≡◌, ℕ, ◌<◌, ◌≤◌}
use Rattle.dl_elf.specs.Slots.{noted, slot_at, name_at}
use Rattle.dl_elf.proofs.named.Sections.note_each.Given as goal

abbrev pub invariant-loop-index : goal.invariant-loop-index
invariant-loop-index l = record {
  done : (k : ℕ) → k < l.index
      → slot_at l.self.found k ≡ noted l.bytes l.number l.header (name_at k) (slot_at l.initial.self.found k);
  rest : (k : ℕ) → l.index ≤ k → slot_at l.self.found k ≡ slot_at l.initial.self.found k;
  forward : l.self.forward ≡ l.initial.self.forward;
}
