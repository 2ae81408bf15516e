-- Notes, and the build ID among them. System V ABI, chapter 5, "Note Section": three numbers of four
-- bytes, the sizes of name and description and the type, and then both, each padded to four bytes. The
-- build ID is the description of a note of type 3 (NT_GNU_BUILD_ID) whose name is `GNU` and a zero byte.
use Rattle.std.specs.Prelude.{ℕ, ◌+◌, ◌*◌, ◌/◌, zero, suc, Bool, ◌&&◌, ◌==◌, nat_le, bytes_eq, if◌then◌else◌, List, []}
use Rattle.std.specs.Prelude.{◌∷◌, ◌++◌, length, drop, codes, Option, Some, None, option_and_then}
use Rattle.dl_num.specs.declared.fixed.Order.{Order}
use Rattle.dl_elf.specs.declared.build_id.BuildId.{BuildId}
use Rattle.dl_elf.specs.declared.file.Elf.{Elf}
use Rattle.dl_elf.specs.declared.named.NamedSection.{NamedSection}
use Rattle.dl_elf.specs.Elf.{bytes_at, number_at}
use Rattle.dl_elf.specs.Sections.{section_range, range_within, section_bytes}

abbrev pub padded : ℕ → ℕ
padded n = (n + 3) / 4 * 4

abbrev pub name_size : Order → List ℕ → ℕ
name_size order b = number_at order 0 4 b

abbrev pub description_size : Order → List ℕ → ℕ
description_size order b = number_at order 4 4 b

-- where the description of the first note of b begins
abbrev pub description_offset : Order → List ℕ → ℕ
description_offset order b = 12 + padded (name_size order b)

-- b begins with a whole note, whose last padding may be missing
abbrev pub has_note : Order → List ℕ → Bool
has_note order b = nat_le 12 (length b) && nat_le (description_offset order b + description_size order b) (length b)

-- the first note of b is one of a build ID
abbrev pub is_build_id : Order → List ℕ → Bool
is_build_id order b =
    (number_at order 8 4 b == 3) && bytes_eq (bytes_at 12 (name_size order b) b) (codes "GNU" ++ 0 ∷ [])

abbrev pub description : Order → List ℕ → List ℕ
description order b = bytes_at (description_offset order b) (description_size order b) b

-- what follows the first note of b
abbrev pub after_note : Order → List ℕ → List ℕ
after_note order b = drop (description_offset order b + padded (description_size order b)) b

-- the description of the first note of a build ID, of the first n notes of b
abbrev pub build_id_from : ℕ → Order → List ℕ → Option (List ℕ)
build_id_from zero order b = None
build_id_from (suc n) order b =
    if has_note order b
    then (if is_build_id order b then Some (description order b) else build_id_from n order (after_note order b))
    else None

-- of all notes of b; each has at least twelve bytes
abbrev pub build_id_in : Order → List ℕ → Option (List ℕ)
build_id_in order b = build_id_from (length b) order b

-- a build ID that names a file: of 2 to 64 bytes
abbrev pub usable : List ℕ → Option (List ℕ)
usable id = if nat_le 2 (length id) && nat_le (length id) 64 then Some id else None

-- the build ID of a section of at most 4096 bytes that lies in the file
abbrev pub build_id_of : Elf → List ℕ → Option NamedSection → Option (List ℕ)
build_id_of e f None = None
build_id_of e f (Some s) =
    if nat_le (section_range s.header).size 4096 && range_within (section_range s.header) f
    then option_and_then usable (build_id_in e.header.order (section_bytes s.header f)) else None

abbrev pub build_id_bytes : BuildId → List ℕ
build_id_bytes id = id.bytes.items
