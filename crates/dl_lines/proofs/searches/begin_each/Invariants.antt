-- The first searches were told.
use Rattle.std.proofs.Common.{◌-◌, ◌≤◌, length}
use Rattle.dl_lines.specs.Searching.{FirstBecome, IsBegun}
use Rattle.dl_lines.proofs.searches.begin_each.Given as goal

abbrev pub invariant-loop-number : goal.invariant-loop-number
invariant-loop-number l = record {
  within : l.number ≤ length l.searches.items;
  become : FirstBecome IsBegun l.number l.initial.searches.items l.searches.items;
}

abbrev pub decreases-loop-number : goal.decreases-loop-number
decreases-loop-number l = length l.searches.items - l.number
