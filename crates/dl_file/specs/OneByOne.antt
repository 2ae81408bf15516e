-- Sections of relocations, places and code, one section after the other. No promise rests on this file.
use Rattle.std.specs.Prelude.{◌≡◌, ◌≤◌, ℕ, zero, suc, ◌+◌, ◌*◌, length, if◌then◌else◌, List, [], ◌∷◌, ◌++◌, Option, Some, None, option_and_then}
use Rattle.std.specs.Prelude.{Result, Ok, Err}
use Rattle.dl_elf.specs.declared.section.SectionHeader.{SectionHeader}
use Rattle.dl_elf.specs.declared.file.Elf.{Elf}
use Rattle.dl_elf.specs.declared.named.NamedSection.{NamedSection}
use Rattle.dl_elf.specs.declared.fault.ElfFault.{ElfFault}
use Rattle.dl_elf.specs.declared.fault.ElfFault.TheVariants as fault
use Rattle.dl_elf.specs.declared.fault.Part.TheVariants as part
use Rattle.dl_elf.specs.Elf.{relocates}
use Rattle.dl_elf.specs.Sections.{section_in}
use Rattle.dl_reloc.specs.declared.placed.Placed.{Placed}
use Rattle.dl_file.specs.declared.code.ExecutableRange.{ExecutableRange}
use Rattle.dl_file.specs.Code.{executable_range_at}
use Rattle.dl_file.specs.LineTable.{option_or}
use Rattle.dl_file.specs.Places.{is_wide, placed_of}
use Rattle.dl_file.specs.Relocations.{and_then, relocated_by}

-- ---- what sections of relocations make of the line section

-- of a section that has none for the line section, b itself; a section header that isn't there is damage
abbrev pub relocated_if : Elf → List ℕ → NamedSection → Option SectionHeader → List ℕ → Result (List ℕ) ElfFault
relocated_if e f line None b = Err (fault.Damaged part.SectionHeaders)
relocated_if e f line (Some s) b = if relocates line.number s then relocated_by e f line.name s b else Ok b

abbrev pub relocated_at : Elf → List ℕ → NamedSection → ℕ → List ℕ → Result (List ℕ) ElfFault
relocated_at e f line i b = relocated_if e f line (section_in e.header f i) b

-- what sections 1 to n make of bytes b of the line section, one after the other, or the first fault
abbrev pub relocated_upto : Elf → List ℕ → NamedSection → (b : List ℕ) → ℕ → Result (List ℕ) ElfFault
relocated_upto e f line b zero = Ok b
relocated_upto e f line b (suc n) = and_then (relocated_at e f line (suc n)) (relocated_upto e f line b n)

-- ---- how many sections have some

-- 1 where a section is of relocations that change section `number`, else 0; None where its header isn't there
abbrev pub relocations_in : (number : ℕ) → Option SectionHeader → Option ℕ
relocations_in number None = None
relocations_in number (Some s) = Some (if relocates number s then 1 else 0)

abbrev pub relocations_at : Elf → List ℕ → (number i : ℕ) → Option ℕ
relocations_at e f number i = relocations_in number (section_in e.header f i)

abbrev pub sum_of : Option ℕ → Option ℕ → Option ℕ
sum_of (Some m) (Some n) = Some (m + n)
sum_of (Some m) None = None
sum_of None other = None

-- how many of sections 1 to n are of relocations that change section `number`
abbrev pub relocations_upto : Elf → List ℕ → (number n : ℕ) → Option ℕ
relocations_upto e f number zero = Some 0
relocations_upto e f number (suc n) = sum_of (relocations_upto e f number n) (relocations_at e f number (suc n))

-- ---- the section with numbers that don't fit

-- section i, where it is such a one
abbrev pub wide_at : Elf → List ℕ → (number i : ℕ) → Option SectionHeader
wide_at e f number i =
    option_and_then (λ s. if is_wide number s then Some s else None) (section_in e.header f i)

-- the first of sections 1 to n
abbrev pub wide_upto : Elf → List ℕ → (number n : ℕ) → Option SectionHeader
wide_upto e f number zero = None
wide_upto e f number (suc n) = option_or (wide_upto e f number n) (wide_at e f number (suc n))

-- ---- places

-- of a section that has no relocations of the line section, the places before it
abbrev pub placed_if : Elf → List ℕ → NamedSection → Option SectionHeader → (before : List Placed)
    → Result (List Placed) ElfFault
placed_if e f line None before = Err (fault.Damaged part.SectionHeaders)
placed_if e f line (Some s) before =
    if relocates line.number s
    then placed_of e f line.name s before
    else Ok before

abbrev pub placed_at : Elf → List ℕ → NamedSection → ℕ → (before : List Placed) → Result (List Placed) ElfFault
placed_at e f line i before = placed_if e f line (section_in e.header f i) before

-- those of sections 1 to n
abbrev pub placed_upto : Elf → List ℕ → NamedSection → ℕ → Result (List Placed) ElfFault
placed_upto e f line zero = Ok []
placed_upto e f line (suc n) = and_then (placed_at e f line (suc n)) (placed_upto e f line n)

-- one section more has this many sections of relocations, each of which adds no more places than this
abbrev pub GrowsBy : (sections : Option ℕ) (each : ℕ) (before after : List Placed) → Type 0
GrowsBy sections each before after =
    (n : ℕ) × (sections ≡ Some n) × (length after ≤ length before + n * each)

-- no more sections of relocations than are read
abbrev pub AreFew : (sections : Option ℕ) → Type 0
AreFew sections = (n : ℕ) × (sections ≡ Some n) × (n ≤ 16)

-- ---- code

abbrev pub and_range : List ExecutableRange → Option ExecutableRange → List ExecutableRange
and_range ranges None = ranges
and_range ranges (Some range) = ranges ++ range ∷ []

-- those of sections 1 to n, in this order
abbrev pub ranges_upto : Elf → List ℕ → ℕ → List ExecutableRange
ranges_upto e f zero = []
ranges_upto e f (suc n) = and_range (ranges_upto e f n) (executable_range_at e f (suc n))
