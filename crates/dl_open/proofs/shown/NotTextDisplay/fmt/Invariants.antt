-- The bytes so far were written.
use Rattle.std.proofs.Common.{flat_map, take}
use Rattle.std.specs.Fmt.{HasWritten, IsPlainFormatter}
use Rattle.dl_open.specs.Shown.{shown_byte}
use Rattle.dl_open.proofs.shown.NotTextDisplay.fmt.Given as goal

abbrev pub invariant-loop-byte : goal.invariant-loop-byte
invariant-loop-byte g l =
    IsPlainFormatter l.fn.f
    → HasWritten g.W.Write.write_str_gives l.fn.f (flat_map shown_byte (take l.byte-index l.self.0.now)) l.f
