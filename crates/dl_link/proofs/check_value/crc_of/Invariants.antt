use Rattle.std.proofs.Common.{◌≡◌, ◌-◌, ◌^◌, ◌≤◌, length, take}
use Rattle.dl_crc.specs.Stands.{StandsFor}
use Rattle.dl_elf.specs.Source.{ForBytes}
use Rattle.dl_link.proofs.check_value.crc_of.Given as goal

abbrev pub invariant-loop-len : goal.invariant-loop-len
invariant-loop-len g l =
    (length l.piece ≡ 32768)
    × ForBytes (g.S.ReadAt.all_bytes l.source) (λ f. StandsFor l.crc (take l.offset f) × (l.offset ≤ length f))

abbrev pub decreases-loop-len : goal.decreases-loop-len
decreases-loop-len g l = 2 ^ 64 - l.offset
