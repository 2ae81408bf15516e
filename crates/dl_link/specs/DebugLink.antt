-- The section `.gnu_debuglink`, as GDB's manual has it ("Debugging Information in Separate Files"): the name of a file, a zero
-- byte, bytes up to a multiple of four, and the CRC-32 of that file in four bytes, in the order of the file that has the section.
-- f: the bytes of a file; e: the file as it is opened.
use Rattle.std.specs.Prelude.{ℕ, ◌+◌, ◌*◌, ◌/◌, Bool, not, ◌&&◌, ◌||◌, ◌==◌, nat_le, bytes_eq, if◌then◌else◌, List, codes}
use Rattle.std.specs.Prelude.{length, min, take, position, Option, Some, None, option_and_then, is_some}
use Rattle.dl_num.specs.declared.fixed.Order.{Order}
use Rattle.dl_elf.specs.declared.file.Elf.{Elf}
use Rattle.dl_elf.specs.declared.section.SectionHeader.{SectionHeader}
use Rattle.dl_elf.specs.Elf.{bytes_at, number_at}
use Rattle.dl_elf.specs.Numbered.{section_number}
use Rattle.dl_elf.specs.Sections.{section_in, section_range}

-- a name of a file in a folder: it has no slash, and isn't that of the folder itself, or of the one above; 255 bytes at most
abbrev pub is_file_name : List ℕ → Bool
is_file_name name =
    nat_le 1 (length name) && (nat_le (length name) 255 && not (is_some (position (λ b. b == 47) name)))
    && not (bytes_eq name (codes ".") || bytes_eq name (codes ".."))

-- where the check value stands behind a name of so many bytes and its zero byte
abbrev pub crc_place : ℕ → ℕ
crc_place n = (n + 1 + 3) / 4 * 4

-- a name, and a check value
pub record LinkData : Type 0 where
  pub name : List ℕ
  pub crc : ℕ

-- those of a section with these bytes, whose name has n bytes
abbrev pub link_with : Order → (b : List ℕ) → (n : ℕ) → Option LinkData
link_with order b n =
    if is_file_name (take n b) && nat_le (crc_place n + 4) (length b)
    then Some (record { name = take n b; crc = number_at order (crc_place n) 4 b }) else None

abbrev pub link_in : Order → (b : List ℕ) → Option LinkData
link_in order b = option_and_then (link_with order b) (position (λ x. x == 0) b)

-- the first bytes of a section, of which 260 are enough for any such name
abbrev pub front_of : (f : List ℕ) → SectionHeader → List ℕ
front_of f s = bytes_at (section_range s).offset (min 260 (section_range s).size) f

-- that of section n
abbrev pub link_at : Elf → (f : List ℕ) → (n : ℕ) → Option LinkData
link_at e f n = option_and_then (λ s. link_in e.header.order (front_of f s)) (section_in e.header f n)

-- the debug link of a file
abbrev pub link_of : Elf → (f : List ℕ) → Option LinkData
link_of e f = option_and_then (link_at e f) (section_number e f (codes ".gnu_debuglink"))
