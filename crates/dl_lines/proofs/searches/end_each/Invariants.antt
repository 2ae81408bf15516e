-- The first searches were told.
use Rattle.std.proofs.Common.{◌-◌, ◌≤◌, length}
use Rattle.dl_lines.specs.Searching.{FirstBecome, IsEnded}
use Rattle.dl_lines.proofs.searches.end_each.Given as goal

abbrev pub invariant-loop-number : goal.invariant-loop-number
invariant-loop-number g l = record {
  within : l.number ≤ length l.searches.items;
  become : FirstBecome IsEnded l.number l.initial.searches.items l.searches.items;
}

abbrev pub decreases-loop-number : goal.decreases-loop-number
decreases-loop-number g l = length l.searches.items - l.number
