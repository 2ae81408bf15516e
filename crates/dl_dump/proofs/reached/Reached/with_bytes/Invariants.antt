use Rattle.std.proofs.Common.{◌≡◌, take}
use Rattle.std.specs.List.{fold}
use Rattle.dl_dump.specs.Reached.{with_byte}
use Rattle.dl_dump.proofs.reached.Reached.with_bytes.Given as goal

abbrev pub invariant-loop-byte : goal.invariant-loop-byte
invariant-loop-byte l = l.at ≡ fold with_byte l.fn.self (take l.byte-index l.fn.bytes)
