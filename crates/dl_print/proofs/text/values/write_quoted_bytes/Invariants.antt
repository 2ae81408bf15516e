-- The bytes so far were written.
use Rattle.std.proofs.Common.{◌≡◌, ◌+◌, ◌*◌, ◌≤◌, ◌++◌, take}
use Rattle.dl_print.specs.ValueText.{quoted_bytes}
use Rattle.dl_print.proofs.text.values.write_quoted_bytes.Given as goal

abbrev pub invariant-loop-byte : goal.invariant-loop-byte
invariant-loop-byte l = record {
  room : l.at ≤ l.initial.at + 4 * l.byte-index;
  written : take l.at l.buffer ≡ take l.initial.at l.initial.buffer ++ quoted_bytes (take l.byte-index l.bytes);
}
