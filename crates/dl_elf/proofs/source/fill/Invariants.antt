use Rattle.std.proofs.Common.{◌≡◌, ◌-◌, ◌≤◌, length, take, drop}
use Rattle.dl_elf.specs.Source.{ForBytes}
use Rattle.dl_elf.proofs.source.fill.Given as goal

abbrev pub invariant-loop-filled : goal.invariant-loop-filled
invariant-loop-filled g l =
    (l.filled ≤ length l.buffer)
    × ForBytes (g.S.ReadAt.all_bytes l.source) (λ f. take l.filled l.buffer ≡ take l.filled (drop l.offset f))

abbrev pub decreases-loop-filled : goal.decreases-loop-filled
decreases-loop-filled g l = length l.initial.buffer - l.filled
