-- How a file is opened, step after step. No promise rests on this file.
use Rattle.std.specs.Prelude.{ℕ, ◌*◌, not, ◌==◌, nat_le, nat_lt, if◌then◌else◌, List, Option, Some, None, Result, Ok, Err}
use Rattle.dl_elf.specs.declared.header.FileHeader.{FileHeader}
use Rattle.dl_elf.specs.declared.section.SectionHeader.{SectionHeader}
use Rattle.dl_elf.specs.declared.file.Elf.{Elf}
use Rattle.dl_elf.specs.declared.fault.ElfFault.{ElfFault}
use Rattle.dl_elf.specs.declared.fault.ElfFault.TheVariants as fault
use Rattle.dl_elf.specs.declared.fault.Part.TheVariants as part
use Rattle.dl_elf.specs.Elf.{section_header_size}
use Rattle.dl_elf.specs.Sections.{lies_within, name_table_number, range_within, section_count, section_in, section_range}
use Rattle.dl_elf.specs.Sections.{without_names}

-- a file whose name table is this section, which has to lie in it
abbrev pub with_names : FileHeader → ℕ → List ℕ → Option SectionHeader → Result Elf ElfFault
with_names h count f None = Err (fault.Damaged part.NameTable)
with_names h count f (Some s) = let names = section_range s in
    if range_within names f then Ok (record { header = h; count = count; names = names })
    else Err (fault.Damaged part.NameTable)

-- a file with this many sections, whose headers have to lie in it, and the name table of this number; 0 is none
abbrev pub counted : FileHeader → List ℕ → (count names : ℕ) → Result Elf ElfFault
counted h f count names =
    if not (lies_within h.table_offset (count * h.entry_size) f) then Err (fault.Damaged part.SectionHeaders)
    else (if names == 0 then Ok (without_names h count)
    else (if nat_le count names then Err (fault.Damaged part.NameTable)
    else with_names h count f (section_in h f names)))

-- a file with this section header 0
abbrev pub from_first : FileHeader → List ℕ → Option SectionHeader → Result Elf ElfFault
from_first h f None = Err (fault.Damaged part.SectionHeaders)
from_first h f (Some s) = counted h f (section_count h s) (name_table_number h s)

-- a file with this header; where e_shoff is 0 there are no sections
abbrev pub opened_with : List ℕ → Option FileHeader → Result Elf ElfFault
opened_with f None = Err fault.NotElf
opened_with f (Some h) =
    if h.table_offset == 0 then Ok (without_names h 0)
    else (if nat_lt h.entry_size (section_header_size h.class) then Err (fault.Damaged part.SectionHeaderSize)
    else from_first h f (section_in h f 0))
