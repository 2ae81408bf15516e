use Rattle.std.proofs.Common.{◌≡◌, ℕ, slice_get}
use Rattle.dl_buffers.specs.Gatherers.{row_after, unit_after}
use Rattle.dl_buffers.proofs.gathering.tell.Given as goal

abbrev pub invariant-loop-answer : goal.invariant-loop-answer
invariant-loop-answer l = record {
  rows : (i : ℕ) → slice_get l.rows i ≡ row_after l.answered l.answer-index l.initial.rows i;
  offsets : (i : ℕ) → slice_get l.units i ≡ unit_after l.answered l.unit l.answer-index l.initial.units i;
}
