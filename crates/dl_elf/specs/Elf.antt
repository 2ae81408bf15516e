-- The file header and section headers of ELF files, of either class and order. System V ABI, chapter 4. f: the file.
use Rattle.std.specs.Prelude.{ℕ, Bool, ◌&&◌, ◌||◌, not, ◌==◌, nat_le, bit_and, if◌then◌else◌, List, length}
use Rattle.std.specs.Prelude.{take, drop, slice_index, Option, Some, None, option_and_then}
use Rattle.dl_num.specs.declared.fixed.Order.{Order}
use Rattle.dl_num.specs.declared.fixed.Order.TheVariants.{Little, Big}
use Rattle.dl_num.specs.Fixed.{fixed}
use Rattle.dl_elf.specs.declared.header.Class.{Class}
use Rattle.dl_elf.specs.declared.header.Class.TheVariants.{Bits32, Bits64}
use Rattle.dl_elf.specs.declared.header.FileHeader.{FileHeader}
use Rattle.dl_elf.specs.declared.section.SectionHeader.{SectionHeader}

-- ---- the file header

-- `size` bytes from `at` on
abbrev pub bytes_at : (at size : ℕ) → List ℕ → List ℕ
bytes_at at size b = take size (drop at b)

-- the number that they spell
abbrev pub number_at : Order → (at size : ℕ) → List ℕ → ℕ
number_at order at size b = fixed order (bytes_at at size b)

-- e_ident begins with the magic number, and EI_VERSION is EV_CURRENT
abbrev pub is_magic : List ℕ → Bool
is_magic f =
    (slice_index f 0 == 0x7f) && (slice_index f 1 == 0x45) && (slice_index f 2 == 0x4c) && (slice_index f 3 == 0x46)
    && (slice_index f 6 == 1)

-- EI_CLASS, byte 4
abbrev pub class_of : ℕ → Option Class
class_of n = if n == 1 then Some Bits32 else (if n == 2 then Some Bits64 else None)

-- EI_DATA, byte 5
abbrev pub order_of : ℕ → Option Order
order_of n = if n == 1 then Some Little else (if n == 2 then Some Big else None)

-- how many bytes a file header has
abbrev pub header_size : Class → ℕ
header_size Bits32 = 52
header_size Bits64 = 64

-- e_type, e_machine, e_shoff, e_shentsize, e_shnum and e_shstrndx
abbrev pub header_fields : Class → Order → List ℕ → FileHeader
header_fields Bits32 order f = record {
  class = Bits32;
  order = order;
  file_type = number_at order 16 2 f;
  machine = number_at order 18 2 f;
  table_offset = number_at order 32 4 f;
  entry_size = number_at order 46 2 f;
  entry_count = number_at order 48 2 f;
  names_number = number_at order 50 2 f;
}
header_fields Bits64 order f = record {
  class = Bits64;
  order = order;
  file_type = number_at order 16 2 f;
  machine = number_at order 18 2 f;
  table_offset = number_at order 40 8 f;
  entry_size = number_at order 58 2 f;
  entry_count = number_at order 60 2 f;
  names_number = number_at order 62 2 f;
}

-- the header in f, where it is whole
abbrev pub whole_header : List ℕ → Order → Class → Option FileHeader
whole_header f order class = if nat_le (header_size class) (length f) then Some (header_fields class order f) else None

-- the header that f begins with
abbrev pub header_in : List ℕ → Option FileHeader
header_in f = if is_magic f
    then option_and_then (λ class. option_and_then (λ order. whole_header f order class) (order_of (slice_index f 5)))
    (class_of (slice_index f 4))
    else None

-- the header of an ELF file, which stands in its first 64 bytes; None where f is none
abbrev pub file_header : List ℕ → Option FileHeader
file_header f = header_in (take 64 f)

-- ---- section headers

-- how many bytes the ABI gives a section header
abbrev pub section_header_size : Class → ℕ
section_header_size Bits32 = 40
section_header_size Bits64 = 64

-- sh_name, sh_type, sh_flags, sh_addr, sh_offset, sh_size, sh_link and sh_info
abbrev pub section_fields : Class → Order → List ℕ → SectionHeader
section_fields Bits32 order b = record {
  name_offset = number_at order 0 4 b;
  section_type = number_at order 4 4 b;
  flags = number_at order 8 4 b;
  address = number_at order 12 4 b;
  offset = number_at order 16 4 b;
  size = number_at order 20 4 b;
  link = number_at order 24 4 b;
  info = number_at order 28 4 b;
}
section_fields Bits64 order b = record {
  name_offset = number_at order 0 4 b;
  section_type = number_at order 4 4 b;
  flags = number_at order 8 8 b;
  address = number_at order 16 8 b;
  offset = number_at order 24 8 b;
  size = number_at order 32 8 b;
  link = number_at order 40 4 b;
  info = number_at order 44 4 b;
}

-- s is of relocations: its type is RELA, REL or CREL
abbrev pub has_relocations : SectionHeader → Bool
has_relocations s = (s.section_type == 4) || (s.section_type == 9) || (s.section_type == 0x40000014)

-- of relocations that change section `number`
abbrev pub relocates : (number : ℕ) → SectionHeader → Bool
relocates number s = (s.info == number) && has_relocations s

-- its flags have SHF_ALLOC and SHF_EXECINSTR
abbrev pub is_executable : SectionHeader → Bool
is_executable s = not (bit_and s.flags 2 == 0) && not (bit_and s.flags 4 == 0)

-- ---- kinds of files

-- ET_REL
abbrev pub is_object : FileHeader → Bool
is_object h = h.file_type == 1

-- ET_EXEC or ET_DYN
abbrev pub is_linked : FileHeader → Bool
is_linked h = (h.file_type == 2) || (h.file_type == 3)
