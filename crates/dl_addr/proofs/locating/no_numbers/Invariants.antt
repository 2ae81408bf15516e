use Rattle.std.proofs.Common.{◌-◌, ◌≤◌, vec_len, vec_capacity}
use Rattle.dl_addr.proofs.locating.no_numbers.Given as goal

abbrev pub invariant-loop-numbers : goal.invariant-loop-numbers
invariant-loop-numbers g l = record {
  within : vec_len l.numbers ≤ l.count;
  capacity : l.count ≤ vec_capacity l.numbers;
}

abbrev pub decreases-loop-numbers : goal.decreases-loop-numbers
decreases-loop-numbers g l = l.count - vec_len l.numbers
