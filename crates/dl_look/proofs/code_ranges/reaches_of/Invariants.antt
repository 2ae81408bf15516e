use Rattle.std.proofs.Common.{◌≤◌, length, vec_capacity}
use Rattle.dl_look.proofs.RangeLemmas.{SoFar}
use Rattle.dl_look.proofs.code_ranges.reaches_of.Given as goal

abbrev pub invariant-loop-range : goal.invariant-loop-range
invariant-loop-range g l =
    record {
      so_far : SoFar l.ranges l.reaches.items l.range-index l.end;
      capacity : length l.ranges ≤ vec_capacity l.reaches;
    }
