use Rattle.std.proofs.Common.{◌≡◌, ℕ, ◌<◌, true}
use Rattle.dl_look.specs.Answer.{is_at_most}
use Rattle.dl_sequence_rules.specs.Alone.{AreMarks, stretch_at}
use Rattle.dl_sequence_rules.proofs.crowding.mark_alone.Given as goal

abbrev pub invariant-loop-k : goal.invariant-loop-k
invariant-loop-k l =
    record {
      reached : (m : ℕ) → m < l.k → is_at_most (stretch_at l.stretches m).last l.reached ≡ true;
      marks : AreMarks l.stretches l.alone;
    }
