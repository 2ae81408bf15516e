-- What the stream of a compressed section comes to. RFC 1950; System V ABI, chapter 4, "Section Compression". b: the
-- bytes of the stream, and what follows it in the section.
use Rattle.std.specs.Prelude.{ℕ, ◌+◌, ◌-◌, ◌*◌, ◌/◌, ◌==◌, if◌then◌else◌, List, length, take, drop, Option}
use Rattle.std.specs.Prelude.{Some, None}
use Rattle.std.specs.Prelude.{Ok, Err}
use Rattle.dl_zlib.specs.Bits.{Giving, Short, Wrong, bits_of}
use Rattle.dl_zlib.specs.Zlib.{given, unzlib}
use Rattle.dl_elf.specs.Elf.{bytes_at}
use Rattle.dl_elf.specs.declared.file.Range.{Range}
use Rattle.dl_elf.specs.declared.compression.CompressionHeader.{CompressionHeader}

-- the stream of a section, and what follows it there; f: bytes of a file
abbrev pub stream_in : CompressionHeader → Range → List ℕ → List ℕ
stream_in header range f = drop header.stream_offset (bytes_at range.offset range.size f)

-- what it inflates to, no more than the header tells; where it isn't a stream, what the whole elements before the damage
-- inflate to
abbrev pub inflated : CompressionHeader → List ℕ → List ℕ
inflated header b = take header.size (given b)

-- where what it came to is damage
abbrev pub damage_by : CompressionHeader → (section_size : ℕ) → List ℕ → Giving → Option ℕ
damage_by header section_size b (Ok found) =
    if length found.0 == header.size then None else Some header.size_offset
damage_by header section_size b (Err (Short, out)) = Some section_size
damage_by header section_size b (Err (Wrong left, out)) =
    Some (header.stream_offset + (8 * length b - left - 1) / 8)

-- the byte of a section of this size that shows its damage: the first of the told size, where the stream inflates to
-- more or fewer bytes; the section's end, where the stream is cut short; the byte with the last bit of the first
-- element that is wrong
abbrev pub damage : CompressionHeader → (section_size : ℕ) → List ℕ → Option ℕ
damage header section_size b = damage_by header section_size b (unzlib (bits_of b))
