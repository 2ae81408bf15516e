-- The bytes of the line section of an object file, with its relocations applied. System V ABI, chapter 4, "Relocation".
-- f: the bytes of a file; e: the file as it is opened; line: its line section; b: bytes of the line section, where that is
-- compressed of what it inflates to.
use Rattle.std.specs.Prelude.{◌≡◌, ℕ, suc, ◌==◌, nat_le, nat_lt, if◌then◌else◌, List, [], ◌∷◌, length, filter, Option}
use Rattle.std.specs.Prelude.{Some, None, option_and_then, option_map, Result, Ok, Err}
use Rattle.dl_elf.specs.declared.header.Class.{Class}
use Rattle.dl_elf.specs.declared.header.Class.TheVariants as elf_class
use Rattle.dl_elf.specs.declared.section.SectionHeader.{SectionHeader}
use Rattle.dl_elf.specs.declared.file.Elf.{Elf}
use Rattle.dl_elf.specs.declared.name.SectionName.{SectionName}
use Rattle.dl_elf.specs.declared.named.NamedSection.{NamedSection}
use Rattle.dl_elf.specs.declared.fault.ElfFault.{ElfFault}
use Rattle.dl_elf.specs.declared.fault.ElfFault.TheVariants as fault
use Rattle.dl_elf.specs.declared.fault.Part.TheVariants as part
use Rattle.dl_elf.specs.Elf.{is_object, relocates}
use Rattle.dl_elf.specs.Sections.{range_within, section_bytes, section_headers, section_in, section_range}
use Rattle.dl_reloc.specs.declared.target.Class.{Class as TargetClass}
use Rattle.dl_reloc.specs.declared.target.Class.TheVariants as class
use Rattle.dl_reloc.specs.declared.target.AddendPlace.{AddendPlace}
use Rattle.dl_reloc.specs.declared.target.AddendPlace.TheVariants.{Rela, Rel}
use Rattle.dl_reloc.specs.declared.target.Target.{Target}
use Rattle.dl_reloc.specs.declared.apply.RelocationFault.{RelocationFault}
use Rattle.dl_reloc.specs.declared.apply.RelocationFault.TheVariants.{UnknownType, PlaceOutside, SymbolOutside, Damaged}
use Rattle.dl_reloc.specs.Entries.{symbol_values}
use Rattle.dl_reloc.specs.Relocated.{relocated}
use Rattle.dl_reloc.specs.Compact.{relocated_compact}

-- ---- what the headers say

abbrev pub class_of : Class → TargetClass
class_of elf_class.Bits32 = class.Bits32
class_of elf_class.Bits64 = class.Bits64

abbrev pub target_of : Elf → Target
target_of e = record { machine = e.header.machine; class = class_of e.header.class; order = e.header.order }

-- SHT_RELA is 4; the other type is SHT_REL
abbrev pub form_of : SectionHeader → AddendPlace
form_of s = if s.section_type == 4 then Rela else Rel

-- the fault of a relocation of the section of this name
abbrev pub fault_of : Elf → SectionName → RelocationFault → ElfFault
fault_of e name (UnknownType n) = fault.UnknownRelocation name n e.header.machine
fault_of e name PlaceOutside = fault.RelocationOutside name
fault_of e name SymbolOutside = fault.Damaged (part.Symbols name)
fault_of e name Damaged = fault.Damaged (part.Relocations name)

abbrev pub with_fault_of : Elf → SectionName → Result (List ℕ) RelocationFault → Result (List ℕ) ElfFault
with_fault_of e name (Ok b) = Ok b
with_fault_of e name (Err why) = Err (fault_of e name why)

-- ---- one section of relocations

-- the bytes of a section; None where they don't lie in the file
abbrev pub bytes_in : List ℕ → SectionHeader → Option (List ℕ)
bytes_in f s = if range_within (section_range s) f then Some (section_bytes s f) else None

-- the values of the symbols that a section has; None where it doesn't lie in the file
abbrev pub values_in : Target → List ℕ → SectionHeader → Option (List ℕ)
values_in t f s = option_map (symbol_values t.class t.order) (bytes_in f s)

-- those of the symbol table of this number (sh_link), none of number 0; None where it doesn't lie in the file
abbrev pub symbols_in : Elf → List ℕ → (number : ℕ) → Option (List ℕ)
symbols_in e f number =
    if number == 0 then Some []
    else if nat_le e.count number then None
    else option_and_then (values_in (target_of e) f) (section_in e.header f number)

-- what entries of this form make of b, with these symbols
abbrev pub by_entries : Elf → SectionName → AddendPlace → (entries symbols : Option (List ℕ)) → List ℕ
    → Result (List ℕ) ElfFault
by_entries e name form None symbols b = Err (fault.Damaged (part.Relocations name))
by_entries e name form (Some entries) None b = Err (fault.Damaged (part.Symbols name))
by_entries e name form (Some entries) (Some symbols) b =
    with_fault_of e name (relocated (target_of e) form entries symbols b)

-- what compact relocations make of b, whose section has these bytes
abbrev pub by_compact : Elf → SectionName → (section symbols : Option (List ℕ)) → List ℕ → Result (List ℕ) ElfFault
by_compact e name None symbols b = Err (fault.Damaged (part.Relocations name))
by_compact e name (Some section) None b = Err (fault.Damaged (part.Symbols name))
by_compact e name (Some section) (Some symbols) b =
    with_fault_of e name (relocated_compact (target_of e) section symbols b)

-- what the relocations of section s make of b; SHT_CREL is 0x40000014
abbrev pub relocated_by : Elf → List ℕ → SectionName → SectionHeader → List ℕ → Result (List ℕ) ElfFault
relocated_by e f name s b =
    if s.section_type == 0x40000014 then by_compact e name (bytes_in f s) (symbols_in e f s.link) b
    else by_entries e name (form_of s) (bytes_in f s) (symbols_in e f s.link) b

-- ---- all sections of relocations

-- all of these, where each is there
abbrev pub all_there : {A : Type 0} → List (Option A) → Option (List A)
all_there [] = Some []
all_there (None ∷ more) = None
all_there (Some x ∷ more) = option_map (λ xs. x ∷ xs) (all_there more)

-- those that change section `number`, in order; none in a file that isn't an object file (ET_REL). None where a section
-- header isn't there
abbrev pub relocation_sections : Elf → List ℕ → (number : ℕ) → Option (List SectionHeader)
relocation_sections e f number =
    if is_object e.header then option_map (filter (relocates number)) (all_there (section_headers e f)) else Some []

-- how many there are
abbrev pub relocations_of : Elf → List ℕ → (number : ℕ) → Option ℕ
relocations_of e f number = option_map length (relocation_sections e f number)

-- there are some
abbrev pub HasRelocations : Elf → List ℕ → (number : ℕ) → Type 0
HasRelocations e f number = (n : ℕ) × (relocations_of e f number ≡ Some (suc n))

-- what is made of what was made before; after a fault nothing follows
abbrev pub and_then : {A : Type 0} → (A → Result A ElfFault) → Result A ElfFault → Result A ElfFault
and_then next (Ok x) = next x
and_then next (Err first) = Err first

-- what each of these sections makes of x, one after the other, or the first fault
abbrev pub by_each : {A : Type 0} → (SectionHeader → A → Result A ElfFault) → List SectionHeader → A → Result A ElfFault
by_each by [] x = Ok x
by_each by (s ∷ more) x = and_then (by_each by more) (by s x)

-- ---- the line section's bytes

-- with these sections of relocations, of which more than 16 are refused, and these bytes or why there are none
abbrev pub relocated_line : Elf → List ℕ → NamedSection → List SectionHeader → (first : Result (List ℕ) ElfFault)
    → Result (List ℕ) ElfFault
relocated_line e f line sections first =
    if nat_lt 16 (length sections) then Err (fault.Damaged (part.Relocations line.name))
    else and_then (by_each (relocated_by e f line.name) sections) first
