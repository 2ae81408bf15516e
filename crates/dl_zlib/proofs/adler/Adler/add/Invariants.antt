-- The sums so far go on to the sums of all.
use Rattle.std.proofs.Common.{◌≡◌, length}
use Rattle.dl_zlib.specs.Zlib.{sums}
use Rattle.dl_zlib.proofs.adler.Adler.add.Given as goal

abbrev pub invariant-loop-rest : goal.invariant-loop-rest
invariant-loop-rest l = sums l.adler.low l.adler.high l.rest ≡ sums l.fn.self.low l.fn.self.high l.fn.bytes

abbrev pub decreases-loop-rest : goal.decreases-loop-rest
decreases-loop-rest l = length l.rest
