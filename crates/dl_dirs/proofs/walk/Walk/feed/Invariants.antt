use Rattle.std.proofs.Common.{ℕ, ◌+◌, ◌≤◌, ◌++◌, List, length, take}
use Rattle.dl_num.specs.declared.fixed.Order.{Order}
use Rattle.dl_dirs.specs.Standing.{Keeps, StandsFor}
use Rattle.dl_dirs.proofs.walk.Walk.feed.Given as goal

abbrev pub invariant-loop : goal.invariant-loop
invariant-loop g l = record {
  within : l.at ≤ length l.piece;
  stands : (order : Order) (abbreviations b : List ℕ) → StandsFor l.fn.self order abbreviations b
      → (l.counter ≤ l.at) × StandsFor l.walk order abbreviations (b ++ take l.at l.piece);
  few : (taken : ℕ) → Keeps l.fn.self taken → Keeps l.walk (taken + l.at);
}
