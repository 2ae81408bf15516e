-- What a `Sections` holds. No promise rests on how this is said.
use Rattle.std.specs.Prelude.{ℕ, List, Option}
use Rattle.dl_elf.specs.declared.named.NamedSection.{NamedSection}
use Rattle.dl_elf.specs.declared.named.Sections.{Sections}

abbrev pub slots : Sections → List (Option NamedSection)
slots s = s.found

-- the number of the first section that may have relocations of a later one
abbrev pub forward_of : Sections → ℕ
forward_of s = s.forward
