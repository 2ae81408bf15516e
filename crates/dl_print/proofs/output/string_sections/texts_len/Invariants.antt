use Rattle.std.proofs.Common.{◌≡◌, ℕ, ◌≤◌, length, take}
use Rattle.dl_table.specs.Text.{text_at}
use Rattle.dl_print.proofs.output.string_sections.texts_len.Given as goal

abbrev pub invariant-loop-len : goal.invariant-loop-len
invariant-loop-len l = record {
  within : l.len ≤ length l.bytes;
  texts : (n : ℕ) → text_at (take l.len l.bytes) n ≡ text_at l.bytes n;
}

abbrev pub decreases-loop-len : goal.decreases-loop-len
decreases-loop-len l = l.len
