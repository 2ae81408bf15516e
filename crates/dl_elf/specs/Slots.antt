-- The sections of the names as a pass keeps them: a slot for each name. No promise rests on how this is said.
use Rattle.std.specs.Prelude.{ℕ, ◌+◌, ◌-◌, min, Bool, ◌&&◌, ◌==◌, nat_lt, if◌then◌else◌, List, length, take, bytes_eq}
use Rattle.std.specs.Prelude.{is_none, slice_index_or, Option, Some, None}
use Rattle.dl_elf.specs.declared.section.SectionHeader.{SectionHeader}
use Rattle.dl_elf.specs.declared.file.Elf.{Elf}
use Rattle.dl_elf.specs.Elf.{bytes_at}
use Rattle.dl_elf.specs.declared.name.SectionName.{SectionName}
use Rattle.dl_elf.specs.declared.name.SectionName.TheVariants.{DebugLine}
use Rattle.dl_elf.specs.declared.named.NamedSection.{NamedSection}
use Rattle.dl_elf.specs.Names.{name_bytes}
use Rattle.dl_elf.specs.Found.{names, index_of}

-- the bytes of the name table from the name of s on, at most n of them
abbrev pub name_front : Elf → List ℕ → SectionHeader → ℕ → List ℕ
name_front e f s n = bytes_at (e.names.offset + s.name_offset) (min n (e.names.size - s.name_offset)) f

-- the bytes begin with the name and a zero byte
abbrev pub begins_with_name : List ℕ → SectionName → Bool
begins_with_name b name = let n = length (name_bytes name) in
    nat_lt n (length b) && bytes_eq (take n b) (name_bytes name) && (slice_index_or b n 0 == 0)

-- a slot after a section, where b begins with the section's name: the first section of the name stays
abbrev pub noted : List ℕ → ℕ → SectionHeader → SectionName → Option NamedSection → Option NamedSection
noted b number header name slot =
    if is_none slot && begins_with_name b name then Some (record { name = name; number = number; header = header })
    else slot

abbrev pub slot_at : List (Option NamedSection) → ℕ → Option NamedSection
slot_at slots k = slice_index_or slots k None

-- the name that slot k is for
abbrev pub name_at : ℕ → SectionName
name_at k = slice_index_or names k DebugLine

abbrev pub slot_of : List (Option NamedSection) → SectionName → Option NamedSection
slot_of slots name = slot_at slots (index_of name)
