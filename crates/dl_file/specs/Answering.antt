-- The forms of contracts inside the crate, over an answer that the definitions give. No promise rests on this file.
use Rattle.std.specs.Prelude.{◌≡◌, ◌-◌, ℕ, true, List, Option, Some, None, IfSome, Result, Ok, Err}
use Rattle.std.specs.Global.{Vec}
use Rattle.std.specs.declared.io.Error.{Error}
use Rattle.dl_elf.specs.declared.compression.Compression.{Compression}
use Rattle.dl_elf.specs.declared.name.SectionName.{SectionName}
use Rattle.dl_elf.specs.declared.fault.ElfFault.{ElfFault}
use Rattle.dl_elf.specs.declared.fault.ElfFault.TheVariants as fault
use Rattle.dl_elf.specs.declared.fault.Part.TheVariants as part
use Rattle.dl_elf.specs.declared.file.Elf.{Elf}
use Rattle.dl_elf.specs.Sections.{range_within, section_range}
use Rattle.dl_file.specs.declared.info_file.InfoSections.{InfoSections}
use Rattle.dl_reloc.specs.declared.placed.Placed.{Placed}
use Rattle.dl_file.specs.declared.relocating.RelocationSections.{RelocationSections}
use Rattle.dl_file.specs.OneByOne.{relocations_upto}
use Rattle.dl_file.specs.Relocations.{relocations_of}
use Rattle.dl_file.specs.declared.read_fault.ReadFault.{ReadFault}
use Rattle.dl_file.specs.declared.read_fault.ReadFault.TheVariants.{Read, DamagedStream}
use Rattle.dl_file.specs.declared.line_file.LineFile.{LineFile}
use Rattle.dl_file.specs.declared.content_reader.Readable.{Readable}
use Rattle.dl_file.specs.declared.line_reader.LineReader.{LineReader}
use Rattle.dl_file.specs.LineTable.{Content, GivesLine, GivesTable, LineTable}

-- a read failed, or a growth was refused
abbrev pub StopsReading : (Error → Type 0) → ElfFault → Type 0
StopsReading Fails (fault.Read error) = Fails error
StopsReading Fails fault.NoMemory = Unit {0}
StopsReading Fails other = ⊥

-- all bytes of this section, or its damage; or a read failed, or a growth was refused
abbrev pub IsHad : (answer : Result (List ℕ) ElfFault) → Result (Vec ℕ) ElfFault → Type 0
IsHad answer (Ok bytes) = answer ≡ Ok bytes.items
IsHad answer (Err (fault.Read error)) = Unit {0}
IsHad answer (Err fault.NoMemory) = Unit {0}
IsHad answer (Err other) = answer ≡ Err other

-- the damage of the section of this name, which is told where a read of it failed so
abbrev pub IsToldAs : SectionName → Option ReadFault → ElfFault → Type 0
IsToldAs name (Some (DamagedStream at)) f = f ≡ fault.DamagedStream name at
IsToldAs name (Some (Read error)) f = f ≡ fault.Read error
IsToldAs name None f = f ≡ fault.NoMemory

-- these bytes were made, or the fault is told; or a read failed, or a growth was refused
abbrev pub IsMade : {A : Type 0} → (answer : Result (List ℕ) ElfFault) (made : List ℕ) → Result A ElfFault → Type 0
IsMade answer made (Ok done) = answer ≡ Ok made
IsMade answer made (Err (fault.Read error)) = Unit {0}
IsMade answer made (Err fault.NoMemory) = Unit {0}
IsMade answer made (Err other) = answer ≡ Err other

-- this fault keeps these places from being listed; or a read failed, or a growth was refused, for which `Memory` holds
abbrev pub StopsListing : (answer : Result (List Placed) ElfFault) (Memory : Type 0) → ElfFault → Type 0
StopsListing answer Memory (fault.Read error) = Unit {0}
StopsListing answer Memory fault.NoMemory = Memory
StopsListing answer Memory other = answer ≡ Err other

-- this number was counted, or a section header isn't there; or a read failed
abbrev pub IsCounted : Option ℕ → Result ℕ ElfFault → Type 0
IsCounted number (Ok n) = number ≡ Some n
IsCounted number (Err (fault.Read error)) = Unit {0}
IsCounted number (Err (fault.Damaged part.SectionHeaders)) = ◌≡◌ {A = Option ℕ} number None
IsCounted number (Err other) = ⊥

-- the sections of relocations of section `number`, how many and from where on; or as of a count
abbrev pub AreFound : Elf → List ℕ → (number : ℕ) → Result RelocationSections ElfFault → Type 0
AreFound e f number (Ok found) =
    (relocations_of e f number ≡ Some found.count) × (relocations_upto e f number (found.first - 1) ≡ Some 0)
AreFound e f number (Err why) = IsCounted (relocations_of e f number) (Err why)

-- this is what was checked, or a section is compressed otherwise than with zlib; or a read failed
abbrev pub IsChecked : {A : Type 0} → (refused : Option (SectionName × Compression)) (checked : A) → Result A ElfFault → Type 0
IsChecked refused checked (Ok found) = (◌≡◌ {A = Option (SectionName × Compression)} refused None) × (found ≡ checked)
IsChecked refused checked (Err (fault.Read error)) = Unit {0}
IsChecked refused checked (Err (fault.Compressed name method)) = refused ≡ Some (name, method)
IsChecked refused checked (Err other) = ⊥

-- a section lies in the file, where there is one
abbrev pub LiesIn : List ℕ → Option Readable → Type 0
LiesIn f section = IfSome section (λ r. range_within (section_range r.section.header) f ≡ true)

-- those of .debug_info that were found lie in the file
pub record InfoLiesIn (f : List ℕ) (found : InfoSections) : Type 0 where
  pub info : range_within (section_range found.info.section.header) f ≡ true
  pub abbreviations : range_within (section_range found.abbreviations.section.header) f ≡ true
  pub str_offsets : LiesIn f found.str_offsets
  pub str : LiesIn f found.debug_str
  pub line_str : LiesIn f found.debug_line_str

-- a growth was refused, for which `Memory` holds
abbrev pub WantsMemory : (Memory : Type 0) → ElfFault → Type 0
WantsMemory Memory fault.NoMemory = Memory
WantsMemory Memory other = ⊥

-- a reader of the line section, or the fault
abbrev pub OpensLine : {S : Type 0} {g : _} → (S → Option (List ℕ)) → (S → Error → Type 0) → (fails : Error → Type 0) → (IsAnswer : Result Content ElfFault → Type 0)
    (Memory : Type 0) → Result (LineReader S g) ElfFault → Type 0
OpensLine all_bytes fails_with fails IsAnswer Memory (Ok reader) =
    (content : Content) × IsAnswer (Ok content) × GivesLine all_bytes fails_with fails reader content
OpensLine all_bytes fails_with fails IsAnswer Memory (Err (fault.Read error)) = Unit {0}
OpensLine all_bytes fails_with fails IsAnswer Memory (Err fault.NoMemory) = Memory
OpensLine all_bytes fails_with fails IsAnswer Memory (Err other) = IsAnswer (Err other)

-- the same of the readers of a line table
abbrev pub OpensTable : {S : Type 0} {g : _} → (S → Option (List ℕ)) → (S → Error → Type 0) → (fails : Error → Type 0) → (IsAnswer : Result LineTable ElfFault → Type 0)
    (Memory : Type 0) → Result (LineFile S g) ElfFault → Type 0
OpensTable all_bytes fails_with fails IsAnswer Memory (Ok file) = (t : LineTable) × IsAnswer (Ok t) × GivesTable all_bytes fails_with fails file t
OpensTable all_bytes fails_with fails IsAnswer Memory (Err (fault.Read error)) = Unit {0}
OpensTable all_bytes fails_with fails IsAnswer Memory (Err fault.NoMemory) = Memory
OpensTable all_bytes fails_with fails IsAnswer Memory (Err other) = IsAnswer (Err other)
