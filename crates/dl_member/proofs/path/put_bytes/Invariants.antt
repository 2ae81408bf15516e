use Rattle.std.proofs.Common.{◌≡◌, ◌≤◌, ◌+◌, ◌++◌, length, map, take}
use Rattle.dl_member.specs.Paths.{readable_byte}
use Rattle.dl_member.proofs.path.put_bytes.Given as goal

abbrev pub invariant-loop-byte : goal.invariant-loop-byte
invariant-loop-byte l =
    (l.path.bytes ≡ l.initial.path.bytes ++ map readable_byte (take l.byte-index l.bytes))
    × (length l.initial.path.bytes + length l.bytes ≤ 8194)
