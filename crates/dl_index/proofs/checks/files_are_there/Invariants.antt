use Rattle.std.proofs.Common.{ℕ, ◌<◌, ◌≤◌}
use Rattle.dl_index.specs.Entries.{entry}
use Rattle.dl_index.proofs.checks.files_are_there.Given as goal

abbrev pub invariant-loop-k : goal.invariant-loop-k
invariant-loop-k l = (k : ℕ) → k < l.k → entry l.files k ≤ l.count
