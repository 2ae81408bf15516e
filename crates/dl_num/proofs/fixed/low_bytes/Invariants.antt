-- The low bytes so far, and those of what is left of the number.
use Rattle.std.proofs.Common.{◌≡◌, ◌-◌, ◌++◌, length}
use Rattle.dl_num.specs.Fixed.{little_bytes}
use Rattle.dl_num.proofs.fixed.low_bytes.Given as goal

abbrev pub invariant-loop : goal.invariant-loop
invariant-loop l = record {
  len : length l.bytes.items ≡ l.counter;
  same : l.bytes.items ++ little_bytes (l.size - l.counter) l.rest ≡ little_bytes l.size l.number;
}
