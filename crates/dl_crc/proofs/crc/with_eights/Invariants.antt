use Rattle.std.proofs.Common.{◌≡◌, take}
use Rattle.std.specs.List.{concat}
use Rattle.dl_crc.specs.Crc32.{with_bytes}
use Rattle.dl_crc.proofs.crc.with_eights.Given as goal

abbrev pub invariant-loop-eight : goal.invariant-loop-eight
invariant-loop-eight l = l.register ≡ with_bytes l.initial.register (concat (take l.eight-index l.eights))
