use Rattle.std.proofs.Common.{ℕ, ◌≤◌, ◌++◌, List, length, take}
use Rattle.dl_forms.specs.Standing.{StandsAt, StandsFor}
use Rattle.dl_forms.proofs.walk.StringWalk.feed.Given as goal

abbrev pub invariant-loop : goal.invariant-loop
invariant-loop l = record {
  within : l.at ≤ length l.piece;
  stands : (b : List ℕ) → StandsFor l.fn.self b
      → (l.counter ≤ l.at) × StandsAt l.fn.self.dialect l.state (b ++ take l.at l.piece);
}
