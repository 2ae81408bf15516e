-- The bytes so far are held.
use Rattle.std.proofs.Common.{◌≡◌, ◌++◌, take}
use Rattle.std.specs.Prelude.{map}
use Rattle.dl_dump.specs.declared.held_sequence.HeldItem.TheVariants as held
use Rattle.dl_dump.proofs.range_dumping.hold_bytes.Given as goal

abbrev pub invariant-loop-byte : goal.invariant-loop-byte
invariant-loop-byte g l = l.items.items ≡ l.initial.items.items ++ map held.Byte (take l.byte-index l.bytes)
