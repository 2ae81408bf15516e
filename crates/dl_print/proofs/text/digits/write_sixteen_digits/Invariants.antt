-- The digits of the bytes so far were written.
use Rattle.std.proofs.Common.{◌≡◌, ◌+◌, ◌*◌, ◌++◌, take}
use Rattle.dl_print.specs.Digits.{hexadecimal_bytes}
use Rattle.dl_print.proofs.text.digits.write_sixteen_digits.Given as goal

abbrev pub invariant-loop-byte : goal.invariant-loop-byte
invariant-loop-byte l = record {
  end : l.at ≡ l.initial.at + 2 * l.byte-index;
  written : take l.at l.buffer ≡ take l.initial.at l.initial.buffer
      ++ hexadecimal_bytes (take l.byte-index l.byte-items);
}
