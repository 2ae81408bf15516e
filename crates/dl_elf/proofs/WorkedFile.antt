-- A 32-bit, big-endian file of 282 bytes, by the definitions: sections 1 to 3 are `.debug_line`, the first
-- of them NOBITS.
use Rattle.std.proofs.Common.{◌≡◌, ℕ, List, [], ◌∷◌, Some, None, Ok, refl, lit<}
use Rattle.dl_num.specs.declared.fixed.Order.TheVariants.{Big}
use Rattle.dl_elf.specs.declared.header.Class.TheVariants.{Bits32}
use Rattle.dl_elf.specs.declared.header.FileHeader.{FileHeader}
use Rattle.dl_elf.specs.declared.section.SectionHeader.{SectionHeader}
use Rattle.dl_elf.specs.declared.file.Elf.{Elf}
use Rattle.dl_elf.specs.Elf.{file_header}
use Rattle.dl_elf.specs.declared.name.SectionName.TheVariants.{DebugLine}
use Rattle.dl_elf.specs.declared.named.NamedSection.{NamedSection}
use Rattle.dl_elf.specs.Sections.{section_in, section_bytes, opened}
use Rattle.dl_elf.specs.Found.{IsNamed}
use Rattle.dl_elf.specs.Compressed.{section_damage, compression_header}
use Rattle.dl_elf.specs.Notes.{build_id_in}

abbrev pub worked_file : List ℕ
worked_file =
    127 ∷ 69 ∷ 76 ∷ 70 ∷ 1 ∷ 2 ∷ 1 ∷ 0 ∷ 0 ∷ 0 ∷ 0 ∷ 0 ∷ 0 ∷ 0 ∷ 0 ∷ 0 ∷ 0 ∷ 1 ∷ 0 ∷ 20 ∷ 0 ∷ 0 ∷ 0 ∷ 1 ∷ 0 ∷ 0 ∷
    0 ∷ 0 ∷ 0 ∷ 0 ∷ 0 ∷ 0 ∷ 0 ∷ 0 ∷ 0 ∷ 82 ∷ 0 ∷ 0 ∷ 0 ∷ 0 ∷ 0 ∷ 52 ∷ 0 ∷ 0 ∷ 0 ∷ 0 ∷ 0 ∷ 40 ∷ 0 ∷ 5 ∷ 0 ∷ 4 ∷
    1 ∷ 2 ∷ 3 ∷ 4 ∷ 5 ∷ 122 ∷ 122 ∷ 0 ∷ 46 ∷ 100 ∷ 101 ∷ 98 ∷ 117 ∷ 103 ∷ 95 ∷ 108 ∷ 105 ∷ 110 ∷ 101 ∷ 0 ∷ 46 ∷ 115
    ∷ 104 ∷ 115 ∷ 116 ∷ 114 ∷
    116 ∷ 97 ∷ 98 ∷ 0 ∷ 0 ∷ 0 ∷ 0 ∷ 0 ∷ 0 ∷ 0 ∷ 0 ∷ 0 ∷ 0 ∷ 0 ∷ 0 ∷ 0 ∷ 0 ∷ 0 ∷ 0 ∷ 0 ∷ 0 ∷ 0 ∷ 0 ∷ 0 ∷ 0 ∷ 0 ∷
    0 ∷ 0 ∷ 0 ∷ 0 ∷ 0 ∷ 0 ∷ 0 ∷ 0 ∷ 0 ∷ 0 ∷ 0 ∷ 0 ∷ 0 ∷ 1 ∷ 0 ∷ 0 ∷ 0 ∷ 0 ∷ 0 ∷ 0 ∷ 0 ∷ 1 ∷ 0 ∷ 0 ∷ 0 ∷ 8 ∷
    0 ∷ 0 ∷ 0 ∷ 0 ∷ 0 ∷ 0 ∷ 0 ∷ 0 ∷ 0 ∷ 0 ∷ 0 ∷ 52 ∷ 0 ∷ 0 ∷ 0 ∷ 2 ∷ 0 ∷ 0 ∷ 0 ∷ 0 ∷ 0 ∷ 0 ∷ 0 ∷ 0 ∷ 0 ∷ 0 ∷
    0 ∷ 1 ∷ 0 ∷ 0 ∷ 0 ∷ 0 ∷ 0 ∷ 0 ∷ 0 ∷ 1 ∷ 0 ∷ 0 ∷ 0 ∷ 1 ∷ 0 ∷ 0 ∷ 0 ∷ 0 ∷ 0 ∷ 0 ∷ 0 ∷ 0 ∷ 0 ∷ 0 ∷ 0 ∷ 52 ∷
    0 ∷ 0 ∷ 0 ∷ 5 ∷ 0 ∷ 0 ∷ 0 ∷ 0 ∷ 0 ∷ 0 ∷ 0 ∷ 0 ∷ 0 ∷ 0 ∷ 0 ∷ 1 ∷ 0 ∷ 0 ∷ 0 ∷ 0 ∷ 0 ∷ 0 ∷ 0 ∷ 1 ∷ 0 ∷ 0 ∷
    0 ∷ 1 ∷ 0 ∷ 0 ∷ 0 ∷ 0 ∷ 0 ∷ 0 ∷ 0 ∷ 0 ∷ 0 ∷ 0 ∷ 0 ∷ 57 ∷ 0 ∷ 0 ∷ 0 ∷ 2 ∷ 0 ∷ 0 ∷ 0 ∷ 0 ∷ 0 ∷ 0 ∷ 0 ∷ 0 ∷
    0 ∷ 0 ∷ 0 ∷ 1 ∷ 0 ∷ 0 ∷ 0 ∷ 0 ∷ 0 ∷ 0 ∷ 0 ∷ 13 ∷ 0 ∷ 0 ∷ 0 ∷ 3 ∷ 0 ∷ 0 ∷ 0 ∷ 0 ∷ 0 ∷ 0 ∷ 0 ∷ 0 ∷ 0 ∷ 0 ∷
    0 ∷ 59 ∷ 0 ∷ 0 ∷ 0 ∷ 23 ∷ 0 ∷ 0 ∷ 0 ∷ 0 ∷ 0 ∷ 0 ∷ 0 ∷ 0 ∷ 0 ∷ 0 ∷ 0 ∷ 1 ∷ 0 ∷ 0 ∷ 0 ∷ 0 ∷ []

abbrev pub worked_header : FileHeader
worked_header =
    record {
      class = Bits32;
      order = Big;
      file_type = 1;
      machine = 20;
      table_offset = 82;
      entry_size = 40;
      entry_count =
          5;
      names_number = 4;
    }

abbrev pub worked_section : SectionHeader
worked_section =
    record { name_offset = 1; section_type = 1; flags = 0; address = 0; offset = 52; size = 5; link = 0; info = 0 }

abbrev pub worked_elf : Elf
worked_elf = record { header = worked_header; count = 5; names = record { offset = 59; size = 23 } }

pub worked_file-header : file_header worked_file ≡ Some worked_header
worked_file-header = refl

pub worked_file-opened : opened worked_file ≡ Ok worked_elf
worked_file-opened = refl

pub worked_file-section : section_in worked_header worked_file 2 ≡ Some worked_section
worked_file-section = refl

pub worked_file-named : IsNamed worked_elf worked_file DebugLine worked_section
worked_file-named = record { within = lit< tt; bytes = refl }

abbrev pub worked_found : NamedSection
worked_found = record { name = DebugLine; number = 2; header = worked_section }

pub worked_file-bytes : section_bytes worked_section worked_file ≡ 1 ∷ 2 ∷ 3 ∷ 4 ∷ 5 ∷ []
worked_file-bytes = refl

pub worked_file-damage : section_damage worked_elf worked_file worked_found ≡ None
worked_file-damage = refl

pub worked_file-compression : compression_header worked_elf worked_file worked_found ≡ None
worked_file-compression = refl

-- a note of another name, with its padding, and then one of a build ID
pub worked_notes : build_id_in Big (0 ∷ 0 ∷ 0 ∷ 3 ∷ 0 ∷ 0 ∷ 0 ∷ 1 ∷ 0 ∷ 0 ∷ 0 ∷ 3 ∷ 103 ∷ 111 ∷ 0 ∷ 0 ∷ 7 ∷ 0 ∷ 0 ∷ 0
    ∷ 0 ∷ 0 ∷ 0 ∷ 4 ∷ 0 ∷ 0 ∷ 0 ∷ 2 ∷ 0 ∷ 0 ∷ 0 ∷ 3 ∷ 71 ∷ 78 ∷ 85 ∷ 0 ∷ 171 ∷ 16 ∷ []) ≡ Some (171 ∷ 16 ∷ [])
worked_notes = refl
