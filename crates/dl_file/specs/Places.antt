-- The places of a line section that relocations change, with the sections of their symbols. System V ABI, chapter 4,
-- "Relocation" and "Symbol Table". f: the bytes of a file; e: the file as it is opened; line: its line section.
use Rattle.std.specs.Prelude.{◌≡◌, ℕ, ◌==◌, ◌&&◌, nat_le, nat_lt, Bool, if◌then◌else◌, List, [], ◌++◌, length, filter, Option}
use Rattle.std.specs.Prelude.{Some, None, option_and_then, slice_get, Result, Ok, Err, MatchResult}
use Rattle.std.specs.List.{filter_map}
use Rattle.dl_elf.specs.declared.section.SectionHeader.{SectionHeader}
use Rattle.dl_elf.specs.declared.file.Elf.{Elf}
use Rattle.dl_elf.specs.declared.name.SectionName.{SectionName}
use Rattle.dl_elf.specs.declared.named.NamedSection.{NamedSection}
use Rattle.dl_elf.specs.declared.fault.ElfFault.{ElfFault}
use Rattle.dl_elf.specs.declared.fault.ElfFault.TheVariants as fault
use Rattle.dl_elf.specs.declared.fault.Part.TheVariants as part
use Rattle.dl_elf.specs.Found.{AreFound, Sections}
use Rattle.dl_elf.specs.Sections.{opened, section_headers, section_in}
use Rattle.dl_reloc.specs.declared.placed.Placed.{Placed}
use Rattle.dl_reloc.specs.Places.{placed, placed_compact}
use Rattle.dl_file.specs.LineTable.{line_section}
use Rattle.dl_file.specs.Relocations.{HasRelocations, by_each, bytes_in, form_of, relocation_sections, target_of}

-- ---- the symbols of a section of relocations

-- the bytes of the symbol table of this number (sh_link), none of number 0; None where it doesn't lie in the file
abbrev pub table_in : Elf → List ℕ → (number : ℕ) → Option (List ℕ)
table_in e f number =
    if number == 0 then Some []
    else if nat_le e.count number then None else option_and_then (bytes_in f) (section_in e.header f number)

-- those of these that are there
abbrev pub there : {A : Type 0} → List (Option A) → List A
there xs = filter_map (λ x. x) xs

-- s has the numbers of sections that don't fit the symbols of table `number`: SHT_SYMTAB_SHNDX is 18
abbrev pub is_wide : (number : ℕ) → SectionHeader → Bool
is_wide number s = (s.section_type == 18) && (s.link == number)

abbrev pub wide_bytes : List ℕ → Option SectionHeader → Option (List ℕ)
wide_bytes f None = Some []
wide_bytes f (Some s) = bytes_in f s

-- the first such section
abbrev pub wide_section : Elf → List ℕ → (number : ℕ) → Option SectionHeader
wide_section e f number = slice_get (filter (is_wide number) (there (section_headers e f))) 0

-- its bytes, none where there is none; None where they don't lie in the file
abbrev pub wide_in : Elf → List ℕ → (number : ℕ) → Option (List ℕ)
wide_in e f number = wide_bytes f (wide_section e f number)

-- ---- one section of relocations

-- the places of these entries; SHT_CREL is 0x40000014
abbrev pub places_in : Elf → SectionHeader → (entries table wide : List ℕ) → List Placed
places_in e s entries table wide =
    if s.section_type == 0x40000014 then placed_compact (target_of e) entries table wide
    else placed (target_of e) (form_of s) entries table wide

-- these places and those of entries, or what of the file is damaged
abbrev pub placed_by : Elf → SectionName → SectionHeader → (entries table wide : Option (List ℕ))
    → (before : List Placed) → Result (List Placed) ElfFault
placed_by e name s None table wide before = Err (fault.Damaged (part.Relocations name))
placed_by e name s (Some entries) None wide before = Err (fault.Damaged (part.Symbols name))
placed_by e name s (Some entries) (Some table) None before = Err (fault.Damaged (part.Symbols name))
placed_by e name s (Some entries) (Some table) (Some wide) before = Ok (before ++ places_in e s entries table wide)

-- ---- all of them, in the order of their sections

-- these places and those of one section of relocations
abbrev pub placed_of : Elf → List ℕ → SectionName → SectionHeader → (before : List Placed) → Result (List Placed) ElfFault
placed_of e f name s before = placed_by e name s (bytes_in f s) (table_in e f s.link) (wide_in e f s.link) before

-- by the sections of relocations of the line section, of which more than 16 are refused
abbrev pub places_with : Elf → List ℕ → NamedSection → Option (List SectionHeader) → Result (List Placed) ElfFault
places_with e f line None = Err (fault.Damaged part.SectionHeaders)
places_with e f line (Some sections) =
    if nat_lt 16 (length sections) then Err (fault.Damaged (part.Relocations line.name))
    else by_each (placed_of e f line.name) sections []

-- the places of the line section that relocations of an object file change
abbrev pub line_places : Elf → List ℕ → NamedSection → Result (List Placed) ElfFault
line_places e f line = places_with e f line (relocation_sections e f line.number)

-- a file without a line section has none
abbrev pub places_of : Elf → List ℕ → Option NamedSection → Result (List Placed) ElfFault
places_of e f None = Ok []
places_of e f (Some line) = line_places e f line

-- ---- a file

-- these are the places of a file with these bytes, or it is the first fault that keeps it from having them
abbrev pub ArePlaces : List ℕ → Result (List Placed) ElfFault → Type 0
ArePlaces f answer = MatchResult (opened f)
    (λ e. (at : Sections) × AreFound e f at × (answer ≡ places_of e f (line_section at)))
    (λ first. answer ≡ Err first)

-- memory is taken for them: the line section has relocations
abbrev pub TakesPlaces : List ℕ → Type 0
TakesPlaces f = (e : Elf) × (opened f ≡ Ok e) × (at : Sections) × AreFound e f at × (line : NamedSection)
    × (line_section at ≡ Some line) × HasRelocations e f line.number

-- why they can't be had: a read failed, a growth was refused, or the first fault
abbrev pub StopsPlaces : List ℕ → ElfFault → Type 0
StopsPlaces f (fault.Read error) = Unit {0}
StopsPlaces f fault.NoMemory = TakesPlaces f
StopsPlaces f other = ArePlaces f (Err other)
