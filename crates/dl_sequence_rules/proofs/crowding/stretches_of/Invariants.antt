use Rattle.std.proofs.Common.{◌≡◌, ℕ, ◌<◌, ◌≤◌, length, vec_capacity}
use Rattle.dl_sequence_rules.specs.Alone.{ended_at, stretch_at, stretch_of}
use Rattle.dl_sequence_rules.proofs.crowding.stretches_of.Given as goal

abbrev pub invariant-loop-number : goal.invariant-loop-number
invariant-loop-number g l =
    record {
      count : length l.stretches.items ≡ l.number;
      capacity : length l.sequences ≤ vec_capacity l.stretches;
      each : (i : ℕ) → i < l.number → stretch_at l.stretches.items i ≡ stretch_of i (ended_at l.sequences i);
    }
