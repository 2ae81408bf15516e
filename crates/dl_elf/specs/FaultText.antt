-- The texts of the faults.
use Rattle.std.specs.Prelude.{ℕ, ◌/◌, ◌%◌, List, [], ◌∷◌, ◌++◌, take, drop, codes, false, Option, Some, None}
use Rattle.std.specs.List.{flat_map}
use Rattle.std.specs.Char.{digit_char}
use Rattle.std.specs.Fmt.{decimal, digits}
use Rattle.dl_elf.specs.declared.fault.ElfFault.{ElfFault}
use Rattle.dl_elf.specs.declared.fault.ElfFault.TheVariants.{Read, NotElf, Damaged, NoLineSection, Compressed}
use Rattle.dl_elf.specs.declared.fault.ElfFault.TheVariants.{DamagedStream}
use Rattle.dl_elf.specs.declared.fault.ElfFault.TheVariants.{UnknownRelocation, RelocationOutside, NoMemory}
use Rattle.dl_elf.specs.declared.fault.Part.{Part}
use Rattle.dl_elf.specs.declared.fault.Part.TheVariants.{SectionHeaderSize, SectionHeaders, NameTable, Section}
use Rattle.dl_elf.specs.declared.fault.Part.TheVariants.{CompressionHeader, Relocations, Symbols}
use Rattle.dl_elf.specs.declared.compression.Compression.{Compression}
use Rattle.dl_elf.specs.declared.compression.Compression.TheVariants.{Zlib, Zstd, Other}
use Rattle.dl_elf.specs.declared.build_id.BuildId.{BuildId}
use Rattle.dl_elf.specs.Names.{name_bytes}
use Rattle.dl_elf.specs.Notes.{build_id_bytes}

abbrev pub part_text : Part → List ℕ
part_text SectionHeaderSize = codes "section header size"
part_text SectionHeaders = codes "section headers"
part_text NameTable = codes "section name table"
part_text (Section name) = codes "section " ++ name_bytes name
part_text (CompressionHeader name) = codes "compression header of section " ++ name_bytes name
part_text (Relocations name) = codes "relocations of section " ++ name_bytes name
part_text (Symbols name) = codes "symbols of the relocations of section " ++ name_bytes name

abbrev pub compression_text : Compression → List ℕ
compression_text Zlib = codes "with zlib"
compression_text Zstd = codes "with zstd"
compression_text (Other n) = codes "by method " ++ decimal n

-- two digits of each byte, in lower case
abbrev pub hexadecimal : List ℕ → List ℕ
hexadecimal bytes = flat_map (λ b. digit_char (b / 16) ∷ digit_char (b % 16) ∷ []) bytes

-- where the debug information of a build is looked for
abbrev pub build_id_text : BuildId → List ℕ
build_id_text id = let bytes = build_id_bytes id in
    codes ".build-id/" ++ hexadecimal (take 1 bytes) ++ codes "/" ++ hexadecimal (drop 1 bytes) ++ codes ".debug"

-- None: the text of a failed read ends in the error's own
abbrev pub fault_text : ElfFault → Option (List ℕ)
fault_text (Read error) = None
fault_text NotElf = Some (codes "not an ELF file")
fault_text (Damaged part) = Some (codes "damaged ELF file: " ++ part_text part)
fault_text (NoLineSection None) = Some (codes "no section .debug_line")
fault_text (NoLineSection (Some id)) =
    Some (codes "no section .debug_line (its debug information may be in " ++ build_id_text id ++ codes ")")
fault_text (Compressed name method) =
    Some (codes "section " ++ name_bytes name ++ codes " is compressed " ++ compression_text method
    ++ codes "; run objcopy --decompress-debug-sections")
fault_text (DamagedStream name at) =
    Some (codes "section " ++ name_bytes name ++ codes ": damaged zlib stream at 0x" ++ digits 16 false at)
fault_text (UnknownRelocation name number machine) =
    Some (codes "section " ++ (name_bytes name ++ (codes ": unknown relocation " ++ (decimal number
    ++ (codes " of machine " ++ decimal machine)))))
fault_text (RelocationOutside name) =
    Some (codes "section " ++ name_bytes name ++ codes ": relocation outside the section")
fault_text NoMemory = Some (codes "out of memory")
