-- Compressed sections. System V ABI, chapter 4, "Section Compression". Sections whose names begin `.zdebug_` are
-- compressed the way it was before the ABI had a flag for it: `ZLIB`, the size in eight bytes, big-endian, and a zlib
-- stream.
use Rattle.std.specs.Prelude.{ℕ, Bool, ◌&&◌, ◌||◌, ◌==◌, not, nat_lt, nat_le, ◌+◌, bit_and, if◌then◌else◌, List, length}
use Rattle.std.specs.Prelude.{bytes_eq, codes, Option, Some, None, option_map}
use Rattle.dl_num.specs.declared.fixed.Order.{Order}
use Rattle.dl_num.specs.declared.fixed.Order.TheVariants.{Big}
use Rattle.dl_elf.specs.declared.header.Class.{Class}
use Rattle.dl_elf.specs.declared.header.Class.TheVariants.{Bits32, Bits64}
use Rattle.dl_elf.specs.declared.file.Elf.{Elf}
use Rattle.dl_elf.specs.declared.named.NamedSection.{NamedSection}
use Rattle.dl_elf.specs.declared.compression.Compression.{Compression}
use Rattle.dl_elf.specs.declared.compression.Compression.TheVariants.{Zlib, Zstd, Other}
use Rattle.dl_elf.specs.declared.compression.CompressionHeader.{CompressionHeader}
use Rattle.dl_elf.specs.declared.fault.Part.{Part}
use Rattle.dl_elf.specs.declared.fault.Part.TheVariants as part
use Rattle.dl_elf.specs.Elf.{bytes_at, number_at}
use Rattle.dl_elf.specs.Names.{is_zdebug}
use Rattle.dl_elf.specs.Sections.{section_range, range_within}

-- how many bytes a compression header has
abbrev pub compression_header_size : Class → ℕ
compression_header_size Bits32 = 12
compression_header_size Bits64 = 24

-- how many bytes of a section come before the stream: by its name, or as its flags have SHF_COMPRESSED; 0 where it
-- isn't compressed
abbrev pub header_length : Elf → NamedSection → ℕ
header_length e s = if is_zdebug s.name then 12
    else (if bit_and s.header.flags 0x800 == 0 then 0 else compression_header_size e.header.class)

-- a section of the name `.zdebug_` begins `ZLIB`
abbrev pub begins_as_named : List ℕ → NamedSection → Bool
begins_as_named f s = not (is_zdebug s.name)
    || (nat_le (s.header.offset + 4) (length f) && bytes_eq (bytes_at s.header.offset 4 f) (codes "ZLIB"))

-- what of the section lies outside, or isn't there
abbrev pub section_damage : Elf → List ℕ → NamedSection → Option Part
section_damage e f s =
    if not (range_within (section_range s.header) f) then Some (part.Section s.name)
    else (if nat_lt (section_range s.header).size (header_length e s) || not (begins_as_named f s)
    then Some (part.CompressionHeader s.name) else None)

-- the method of a ch_type
abbrev pub method_of : ℕ → Compression
method_of n = if n == 1 then Zlib else (if n == 2 then Zstd else Other n)

-- ch_type and ch_size, where the size stands, and where the stream begins
abbrev pub compression_fields : Class → Order → List ℕ → CompressionHeader
compression_fields Bits32 order b =
    record {
      method = method_of (number_at order 0 4 b);
      size = number_at order 4 4 b;
      size_offset = 4;
      stream_offset = 12;
    }
compression_fields Bits64 order b =
    record {
      method = method_of (number_at order 0 4 b);
      size = number_at order 8 8 b;
      size_offset = 8;
      stream_offset = 24;
    }

-- the same of a section of the name `.zdebug_`
abbrev pub zdebug_fields : List ℕ → CompressionHeader
zdebug_fields b = record { method = Zlib; size = number_at Big 4 8 b; size_offset = 4; stream_offset = 12 }

-- the n bytes that the section begins with, where they lie in the file
abbrev pub front_of : List ℕ → NamedSection → ℕ → Option (List ℕ)
front_of f s n = if nat_le (s.header.offset + n) (length f) then Some (bytes_at s.header.offset n f) else None

-- of a section that begins with a compression header
abbrev pub flagged_header : Elf → List ℕ → NamedSection → Option CompressionHeader
flagged_header e f s =
    option_map (compression_fields e.header.class e.header.order)
    (front_of f s (compression_header_size e.header.class))

-- how the section is compressed; None where it isn't
abbrev pub compression_header : Elf → List ℕ → NamedSection → Option CompressionHeader
compression_header e f s = if is_zdebug s.name then option_map zdebug_fields (front_of f s 12)
    else (if bit_and s.header.flags 0x800 == 0 then None else flagged_header e f s)
