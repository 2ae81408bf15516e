-- No colon stands from here on.
use Rattle.std.proofs.Common.{◌≢◌, ◌<◌, ◌≤◌, ℕ, length, get_or}
use Rattle.dl_lines.proofs.word.last_colon.Given as goal

abbrev pub invariant-loop-at : goal.invariant-loop-at
invariant-loop-at l = record {
  within : l.at ≤ length l.word;
  none : (k : ℕ) → l.at ≤ k → k < length l.word → get_or l.word k 0 ≢ 0x3a;
}

abbrev pub decreases-loop-at : goal.decreases-loop-at
decreases-loop-at l = l.at
