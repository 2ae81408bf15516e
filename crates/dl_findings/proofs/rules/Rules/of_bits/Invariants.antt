-- The first bits are read.
use Rattle.std.proofs.Common.{◌≡◌, length}
use Rattle.dl_findings.proofs.BitLemmas.{AreRead}
use Rattle.dl_findings.proofs.rules.Rules.of_bits.Given as goal

abbrev pub invariant-loop-place : goal.invariant-loop-place
invariant-loop-place l = record {
  long : length l.has ≡ 19;
  read : AreRead l.bits l.has l.place;
}
