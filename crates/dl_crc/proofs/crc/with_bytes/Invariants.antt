use Rattle.std.proofs.Common.{◌≡◌, take}
use Rattle.dl_crc.specs.Crc32.{with_bytes}
use Rattle.dl_crc.proofs.crc.with_bytes.Given as goal

abbrev pub invariant-loop-byte : goal.invariant-loop-byte
invariant-loop-byte l = l.register ≡ with_bytes l.initial.register (take l.byte-index l.bytes)
