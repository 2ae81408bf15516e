-- The sections of an ELF file, and how it is opened. System V ABI, chapter 4. f: the bytes of a file; h: its header.
use Rattle.std.specs.Prelude.{ℕ, zero, suc, ◌+◌, ◌-◌, ◌*◌, Bool, not, ◌||◌, ◌&&◌, ◌==◌, nat_le, nat_lt, if◌then◌else◌, List}
use Rattle.std.specs.Prelude.{[], ◌∷◌, ◌++◌, length, Option, Some, None, is_none, Result, Ok, Err}
use Rattle.dl_elf.specs.declared.header.FileHeader.{FileHeader}
use Rattle.dl_elf.specs.declared.section.SectionHeader.{SectionHeader}
use Rattle.dl_elf.specs.declared.file.Range.{Range}
use Rattle.dl_elf.specs.declared.file.Elf.{Elf}
use Rattle.dl_elf.specs.declared.fault.ElfFault.{ElfFault}
use Rattle.dl_elf.specs.declared.fault.ElfFault.TheVariants as fault
use Rattle.dl_elf.specs.declared.fault.Part.TheVariants as part
use Rattle.dl_elf.specs.Elf.{bytes_at, file_header, section_header_size, section_fields}

-- this many bytes from there on lie in f; none lie anywhere
abbrev pub lies_within : (at size : ℕ) → List ℕ → Bool
lies_within at size f = (size == 0) || nat_le (at + size) (length f)

-- where section header i stands
abbrev pub header_place : FileHeader → ℕ → ℕ
header_place h i = h.table_offset + i * h.entry_size

-- section header i
abbrev pub section_header : FileHeader → List ℕ → ℕ → SectionHeader
section_header h f i = section_fields h.class h.order (bytes_at (header_place h i) (section_header_size h.class) f)

-- the same, where it lies in f
abbrev pub section_in : FileHeader → List ℕ → ℕ → Option SectionHeader
section_in h f i =
    if nat_le (header_place h i + section_header_size h.class) (length f) then Some (section_header h f i) else None

-- how many sections there are, section header 0 being s: e_shnum, or sh_size of s
abbrev pub section_count : FileHeader → SectionHeader → ℕ
section_count h s = if h.entry_count == 0 then s.size else h.entry_count

-- the number of the name table, section header 0 being s: e_shstrndx, or sh_link of s where that is SHN_XINDEX
abbrev pub name_table_number : FileHeader → SectionHeader → ℕ
name_table_number h s = if h.names_number == 0xffff then s.link else h.names_number

-- where a section's bytes stand; one of type NOBITS has none
abbrev pub section_range : SectionHeader → Range
section_range s =
    if s.section_type == 8 then record { offset = s.offset; size = 0 } else record { offset = s.offset; size = s.size }

-- the range lies in f
abbrev pub range_within : Range → List ℕ → Bool
range_within r f = lies_within r.offset r.size f

-- the bytes of a section
abbrev pub section_bytes : SectionHeader → List ℕ → List ℕ
section_bytes s f = let range = section_range s in bytes_at range.offset range.size f

-- section headers 1 to n, each where it lies in f
abbrev pub headers_upto : FileHeader → List ℕ → ℕ → List (Option SectionHeader)
headers_upto h f zero = []
headers_upto h f (suc n) = headers_upto h f n ++ section_in h f (suc n) ∷ []

-- those of all sections, in order; section 0 is none
abbrev pub section_headers : Elf → List ℕ → List (Option SectionHeader)
section_headers e f = headers_upto e.header f (e.count - 1)

-- ---- opening a file

-- a file with this many sections, none of which has a name
abbrev pub without_names : FileHeader → ℕ → Elf
without_names h count = record { header = h; count = count; names = record { offset = 0; size = 0 } }

-- how many sections there are, and which has the name table, by section header 0; number 0 is none
abbrev pub count_in : FileHeader → List ℕ → ℕ
count_in h f = section_count h (section_header h f 0)

abbrev pub names_in : FileHeader → List ℕ → ℕ
names_in h f = name_table_number h (section_header h f 0)

-- the bytes of the name table
abbrev pub names_range : FileHeader → List ℕ → Range
names_range h f =
    if names_in h f == 0 then record { offset = 0; size = 0 } else section_range (section_header h f (names_in h f))

-- what may keep a file with sections from being opened, in order, and the fault that it then is: section headers that are
-- too short, header 0, all headers, or the name table outside
abbrev pub reasons : FileHeader → List ℕ → List (Bool × ElfFault)
reasons h f =
    (nat_lt h.entry_size (section_header_size h.class), fault.Damaged part.SectionHeaderSize)
    ∷ (is_none (section_in h f 0), fault.Damaged part.SectionHeaders)
    ∷ (not (lies_within h.table_offset (count_in h f * h.entry_size) f), fault.Damaged part.SectionHeaders)
    ∷ (not (names_in h f == 0) && nat_le (count_in h f) (names_in h f), fault.Damaged part.NameTable)
    ∷ (not (names_in h f == 0) && is_none (section_in h f (names_in h f)), fault.Damaged part.NameTable)
    ∷ (not (range_within (names_range h f) f), fault.Damaged part.NameTable)
    ∷ []

-- the fault of the first of them that holds, else the file
abbrev pub unless : List (Bool × ElfFault) → Elf → Result Elf ElfFault
unless [] e = Ok e
unless (reason ∷ more) e = if reason.0 then Err reason.1 else unless more e

-- a file with this header; where e_shoff is 0 there are no sections
abbrev pub opened_by : List ℕ → Option FileHeader → Result Elf ElfFault
opened_by f None = Err fault.NotElf
opened_by f (Some h) =
    if h.table_offset == 0 then Ok (without_names h 0)
    else unless (reasons h f) (record { header = h; count = count_in h f; names = names_range h f })

-- what a file with these bytes is opened as, or the first fault
abbrev pub opened : List ℕ → Result Elf ElfFault
opened f = opened_by f (file_header f)
