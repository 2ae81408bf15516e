use Rattle.std.proofs.Common.{take}
use Rattle.std.specs.Fmt.{HasWritten, IsPlainFormatter}
use Rattle.dl_elf.specs.FaultText.{hexadecimal}
use Rattle.dl_elf.proofs.build_id.HexadecimalDisplay.fmt.Given as goal

abbrev pub invariant-loop-byte : goal.invariant-loop-byte
invariant-loop-byte g l =
    IsPlainFormatter l.fn.f
    → HasWritten g.W.Write.write_str_gives l.fn.f (hexadecimal (take l.byte-index l.self.0.now)) l.f
