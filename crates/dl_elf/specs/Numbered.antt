-- The number of a section, by its name or by what it holds. System V ABI, chapter 4, "Sections". f: the bytes of a
-- file; e: the file as it is opened.
use Rattle.std.specs.Prelude.{ℕ, zero, suc, ◌+◌, ◌-◌, ◌==◌, ◌&&◌, ◌||◌, nat_lt, not, Bool, false, true, if◌then◌else◌}
use Rattle.std.specs.Prelude.{List, [], ◌∷◌, ◌++◌, length, bytes_eq, codes, Option, Some, None}
use Rattle.dl_elf.specs.declared.section.SectionHeader.{SectionHeader}
use Rattle.dl_elf.specs.declared.file.Elf.{Elf}
use Rattle.dl_elf.specs.Elf.{bytes_at, is_executable}
use Rattle.dl_elf.specs.Sections.{section_in}

-- s has the name: the name and a zero byte stand in the name table, from sh_name on
abbrev pub has_name : Elf → List ℕ → (name : List ℕ) → SectionHeader → Bool
has_name e f name s = nat_lt (s.name_offset + length name) e.names.size
    && bytes_eq (bytes_at (e.names.offset + s.name_offset) (length name + 1) f) (name ++ 0 ∷ [])

-- s has the name, and its type isn't SHT_NOBITS
abbrev pub is_named : Elf → List ℕ → (name : List ℕ) → Option SectionHeader → Bool
is_named e f name None = false
is_named e f name (Some s) = not (s.section_type == 8) && has_name e f name s

-- section n is such a one
abbrev pub is_named_at : Elf → List ℕ → (name : List ℕ) → ℕ → Bool
is_named_at e f name n = is_named e f name (section_in e.header f n)

abbrev pub is_code : Option SectionHeader → Bool
is_code None = false
is_code (Some s) = is_executable s

-- section n has instructions
abbrev pub is_code_at : Elf → List ℕ → ℕ → Bool
is_code_at e f n = is_code (section_in e.header f n)

abbrev pub has_bytes : Option SectionHeader → Bool
has_bytes None = false
has_bytes (Some s) = not (s.size == 0)

-- section n has bytes, where that is asked for
abbrev pub is_full_at : Elf → List ℕ → (full : Bool) → ℕ → Bool
is_full_at e f full n = not full || has_bytes (section_in e.header f n)

abbrev pub or_else : Option ℕ → Option ℕ → Option ℕ
or_else None other = other
or_else (Some n) other = Some n

-- the first of the numbers 1 to n that passes p
abbrev pub first_upto : (p : ℕ → Bool) → ℕ → Option ℕ
first_upto p zero = None
first_upto p (suc n) = or_else (first_upto p n) (if p (suc n) then Some (suc n) else None)

-- the number of the first section of the name whose type isn't SHT_NOBITS
abbrev pub first_named : Elf → List ℕ → (full : Bool) → (name : List ℕ) → Option ℕ
first_named e f full name = first_upto (λ n. is_named_at e f name n && is_full_at e f full n) (e.count - 1)

-- of the first with instructions
abbrev pub first_code : Elf → List ℕ → (full : Bool) → Option ℕ
first_code e f full = first_upto (λ n. is_code_at e f n && is_full_at e f full n) (e.count - 1)

-- the number of the first section of the name that has bytes; where none has, of the first
abbrev pub section_number : Elf → List ℕ → (name : List ℕ) → Option ℕ
section_number e f name = or_else (first_named e f true name) (first_named e f false name)

-- of .text, or else of the first with instructions: among those that have bytes; where none has, among all
abbrev pub code_section : Elf → List ℕ → Option ℕ
code_section e f =
    or_else (or_else (first_named e f true (codes ".text")) (first_code e f true))
    (or_else (first_named e f false (codes ".text")) (first_code e f false))
