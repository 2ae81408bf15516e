use Rattle.std.proofs.Common.{◌≡◌, ℕ, ◌<◌, ◌≤◌, false}
use Rattle.dl_sequence_rules.specs.Cutting.{owner_at, owner_touches}
use Rattle.dl_sequence_rules.proofs.cut_search.any_touches.Given as goal

abbrev pub invariant-loop-k : goal.invariant-loop-k
invariant-loop-k l = (m : ℕ) → l.fn.low ≤ m → m < l.k → owner_touches l.sequences l.range (owner_at l.cuts m) ≡ false
