-- The bytes of a section that were read.
use Rattle.std.proofs.Common.{◌≡◌, ℕ, true, List, Some}
use Rattle.std.proofs.Common.{refl, ◌∙◌}
use Rattle.dl_elf.specs.declared.section.SectionHeader.{SectionHeader}
use Rattle.dl_elf.specs.Sections.{range_within, section_bytes, section_range}
use Rattle.dl_file.specs.Relocations.{bytes_in}

-- bytes that are a section's, which lies in the file
pub bytes_of_section : (f : List ℕ) (s : SectionHeader) (b : List ℕ) → range_within (section_range s) f ≡ true
    → Some b ≡ bytes_in f s → b ≡ section_bytes s f
bytes_of_section f s b within is =
    let lies : bytes_in f s ≡ Some (section_bytes s f) = rw within refl in cc (is ∙ lies)
