use Rattle.std.proofs.Common.{ℕ, ◌+◌, ◌<◌, ◌≤◌}
use Rattle.dl_index.specs.Layout.{text_place_in, text_len_in, text_bytes_in}
use Rattle.dl_index.specs.Shown.{bytes_of}
use Rattle.dl_index.proofs.checks.texts_lie_within.Given as goal

abbrev pub invariant-loop-text : goal.invariant-loop-text
invariant-loop-text l =
    (t : ℕ) → t < l.text
    → text_place_in (bytes_of l.fn.index) t + text_len_in (bytes_of l.fn.index) t ≤ text_bytes_in (bytes_of l.fn.index)
