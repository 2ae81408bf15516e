-- Files without a line table. f: the bytes of a file.
use Rattle.std.specs.Prelude.{◌≡◌, ◌⊎◌, ℕ, List, None, Ok, Err}
use Rattle.dl_elf.specs.Found.{AreFound, Sections}
use Rattle.dl_elf.specs.Sections.{opened}
use Rattle.dl_elf.specs.declared.fault.ElfFault.TheVariants.{NotElf}
use Rattle.dl_elf.specs.declared.file.Elf.{Elf}
use Rattle.dl_file.specs.LineTable.{line_section}

-- f isn't an ELF file, or has no line section
abbrev pub HasNoTable : (f : List ℕ) → Type 0
HasNoTable f = (opened f ≡ Err NotElf)
    ⊎ ((e : Elf) × (opened f ≡ Ok e) × (at : Sections) × AreFound e f at × (line_section at ≡ None))
