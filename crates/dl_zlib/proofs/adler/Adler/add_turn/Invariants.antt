-- The sums so far, not reduced: their bounds, and that they go on to the sums of all.
use Rattle.std.proofs.Common.{◌≡◌, ◌≤◌, ◌+◌, ◌*◌, ◌%◌, drop}
use Rattle.dl_zlib.specs.Zlib.{sums}
use Rattle.dl_zlib.proofs.adler.Adler.add_turn.Given as goal

abbrev pub invariant-loop-byte : goal.invariant-loop-byte
invariant-loop-byte l = record {
  low_bound : l.low ≤ 65520 + 255 * l.byte-index;
  high_bound : l.high ≤ 65520 + 1481280 * l.byte-index;
  same : sums (l.low % 65521) (l.high % 65521) (drop l.byte-index l.bytes) ≡ sums l.fn.self.low l.fn.self.high l.bytes;
}
