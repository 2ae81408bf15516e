-- What the pieces so far made of the bytes.
use Rattle.std.proofs.Common.{◌≡◌, ◌*◌, take, Ok}
use Rattle.dl_elf.specs.Sections.{section_bytes}
use Rattle.dl_elf.specs.Source.{ForBytes}
use Rattle.dl_reloc.specs.Relocated.{relocated}
use Rattle.dl_file.specs.Relocations.{form_of, target_of}
use Rattle.dl_file.proofs.relocating.relocate_pieces.Given as goal

abbrev pub invariant-loop-index : goal.invariant-loop-index
invariant-loop-index g l = ForBytes (g.S.ReadAt.all_bytes l.source) (λ f.
    relocated (target_of l.elf) (form_of l.section) (take (l.index * 24576) (section_bytes l.section f)) l.symbols
    l.fn.bytes ≡ Ok l.bytes)
