-- The debug link of a file.
use Rattle.std.proofs.Common.{◌≡◌, ℕ, List, Some, refl}
use Rattle.std.specs.Prelude.{codes}
use Rattle.dl_elf.specs.declared.file.Elf.{Elf}
use Rattle.dl_elf.specs.declared.section.SectionHeader.{SectionHeader}
use Rattle.dl_elf.specs.Numbered.{section_number}
use Rattle.dl_elf.specs.Sections.{section_in}
use Rattle.dl_link.specs.DebugLink.{front_of, link_in, link_of}

-- what is read of the section is what the link is told by
pub link_found : (e : Elf) (f : List ℕ) (n : ℕ) (s : SectionHeader) (b : List ℕ)
    → section_number e f (codes ".gnu_debuglink") ≡ Some n → section_in e.header f n ≡ Some s → b ≡ front_of f s
    → link_in e.header.order b ≡ link_of e f
link_found e f n s b number section is = rw (number, section, is) refl
