use Rattle.std.proofs.Common.{◌≡◌, ℕ, ◌<◌, ◌≤◌, false}
use Rattle.dl_sequence_rules.specs.Cutting.{is_other, owner_at}
use Rattle.dl_sequence_rules.proofs.cut_search.first_other.Given as goal

abbrev pub invariant-loop-k : goal.invariant-loop-k
invariant-loop-k l = (m : ℕ) → l.fn.low ≤ m → m < l.k → is_other l.number (owner_at l.cuts m) ≡ false
