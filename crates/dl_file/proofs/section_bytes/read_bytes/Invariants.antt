-- The bytes in the pieces so far.
use Rattle.std.proofs.Common.{◌≡◌, ◌*◌, take}
use Rattle.dl_elf.specs.Sections.{section_bytes}
use Rattle.dl_elf.specs.Source.{ForBytes}
use Rattle.dl_file.proofs.section_bytes.read_bytes.Given as goal

abbrev pub invariant-loop-index : goal.invariant-loop-index
invariant-loop-index g l = ForBytes (g.S.ReadAt.all_bytes l.source) (λ f.
    l.bytes.items ≡ take (l.index * 24576) (section_bytes l.section f))
