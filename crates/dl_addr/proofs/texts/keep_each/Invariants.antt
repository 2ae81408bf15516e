-- The paths of the places so far are kept.
use Rattle.std.proofs.Common.{◌≡◌, ℕ, ◌+◌, ◌<◌, length, slice_get, slice_index_or}
use Rattle.dl_look.specs.Ledgers.{no_answer}
use Rattle.dl_addr.specs.Texts.{AreNumbers, AreSeen, Grows, IsKept, IsOther, path_of_file}
use Rattle.dl_addr.specs.Room.{HasFew, KeepsFew}
use Rattle.dl_addr.proofs.texts.keep_each.Given as goal

abbrev pub invariant-loop-answer : goal.invariant-loop-answer
invariant-loop-answer g l = record {
  grows : Grows l.initial.paths l.paths;
  seen : AreSeen l.unit l.numbers l.paths;
  few : (count : ℕ) → HasFew l.initial.paths count → KeepsFew l.numbers l.paths (count + l.answer-index);
  len : length l.kept.items ≡ length l.initial.kept.items;
  others : (i : ℕ) → IsOther l.answered l.answer-index i → slice_get l.kept.items i ≡ slice_get l.initial.kept.items i;
  right : AreNumbers l.answered l.initial.kept.items → (j : ℕ) → j < l.answer-index
      → IsKept l.paths l.kept.items (slice_index_or l.answered j no_answer).number
      (path_of_file l.unit (slice_index_or l.answered j no_answer).row.file);
}
