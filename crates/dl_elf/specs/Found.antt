-- The section of a name. f: the bytes of a file; e: the file as it is opened.
use Rattle.std.specs.Prelude.{◌≡◌, ◌≢◌, ℕ, ◌+◌, ◌<◌, ◌≤◌, List, [], ◌∷◌, ◌++◌, length, Option, Some, None}
use Rattle.dl_elf.specs.declared.section.SectionHeader.{SectionHeader}
use Rattle.dl_elf.specs.declared.file.Elf.{Elf}
use Rattle.dl_elf.specs.declared.name.SectionName.{SectionName}
use Rattle.dl_elf.specs.declared.name.SectionName.TheVariants.{DebugLine, ZdebugLine, DebugLineDwo, DebugLineStr}
use Rattle.dl_elf.specs.declared.name.SectionName.TheVariants.{ZdebugLineStr, DebugLineStrDwo, DebugStr, ZdebugStr}
use Rattle.dl_elf.specs.declared.name.SectionName.TheVariants.{DebugStrDwo, BuildIdNote, DebugInfo, ZdebugInfo}
use Rattle.dl_elf.specs.declared.name.SectionName.TheVariants.{DebugAbbrev, ZdebugAbbrev, DebugStrOffsets}
use Rattle.dl_elf.specs.declared.name.SectionName.TheVariants.{ZdebugStrOffsets}
use Rattle.dl_elf.specs.declared.named.NamedSection.{NamedSection}
use Rattle.dl_elf.specs.Elf.{bytes_at}
use Rattle.dl_elf.specs.Sections.{section_in}
use Rattle.dl_elf.specs.Names.{name_bytes}

-- s has the name: the name and a zero byte stand in the name table, from sh_name on
pub record IsNamed (e : Elf) (f : List ℕ) (name : SectionName) (s : SectionHeader) : Type 0 where
  pub within : s.name_offset + length (name_bytes name) < e.names.size
  pub bytes : bytes_at (e.names.offset + s.name_offset) (length (name_bytes name) + 1) f ≡ name_bytes name ++ 0 ∷ []

-- s has the name, and its type isn't NOBITS
abbrev pub IsWanted : Elf → List ℕ → SectionName → SectionHeader → Type 0
IsWanted e f name s = (s.section_type ≢ 8) × IsNamed e f name s

-- section n lies in the file, has the name, and isn't of type NOBITS
abbrev pub IsWantedAt : Elf → List ℕ → SectionName → ℕ → Type 0
IsWantedAt e f name n = (s : SectionHeader) × (section_in e.header f n ≡ Some s) × IsWanted e f name s

-- from number 1 on no section before number n is wanted
abbrev pub NoneBefore : Elf → List ℕ → SectionName → ℕ → Type 0
NoneBefore e f name n = (k : ℕ) → 1 ≤ k → k < n → ¬ IsWantedAt e f name k

-- s is the first section of the name, of those before number n
pub record IsFirst (e : Elf) (f : List ℕ) (name : SectionName) (n : ℕ) (s : NamedSection) : Type 0 where
  pub is_name : s.name ≡ name
  pub from : 1 ≤ s.number
  pub before : s.number < n
  pub header : section_in e.header f s.number ≡ Some s.header
  pub wanted : IsWanted e f name s.header
  pub none_before : NoneBefore e f name s.number

-- of the sections before number n, the first of the name, or that there is none
abbrev pub FoundBefore : Elf → List ℕ → SectionName → ℕ → Option NamedSection → Type 0
FoundBefore e f name n None = NoneBefore e f name n
FoundBefore e f name n (Some s) = IsFirst e f name n s

-- the section of the name, or that there is none
abbrev pub Found : Elf → List ℕ → SectionName → Option NamedSection → Type 0
Found e f name found = FoundBefore e f name e.count found

-- the sections of all names
abbrev pub Sections : Type 0
Sections = SectionName → Option NamedSection

-- each is the section of its name, as Found says it
abbrev pub AreFound : Elf → List ℕ → Sections → Type 0
AreFound e f at = (name : SectionName) → Found e f name (at name)

-- ---- the sections that a pass found

-- the names in the order in which they are kept
abbrev pub names : List SectionName
names = DebugLine ∷ ZdebugLine ∷ DebugLineDwo ∷ DebugLineStr ∷ ZdebugLineStr ∷ DebugLineStrDwo ∷ DebugStr ∷ ZdebugStr
    ∷ DebugStrDwo ∷ BuildIdNote ∷ DebugInfo ∷ ZdebugInfo ∷ DebugAbbrev ∷ ZdebugAbbrev ∷ DebugStrOffsets ∷ ZdebugStrOffsets
    ∷ []

abbrev pub index_of : SectionName → ℕ
index_of DebugLine = 0
index_of ZdebugLine = 1
index_of DebugLineDwo = 2
index_of DebugLineStr = 3
index_of ZdebugLineStr = 4
index_of DebugLineStrDwo = 5
index_of DebugStr = 6
index_of ZdebugStr = 7
index_of DebugStrDwo = 8
index_of BuildIdNote = 9
index_of DebugInfo = 10
index_of ZdebugInfo = 11
index_of DebugAbbrev = 12
index_of ZdebugAbbrev = 13
index_of DebugStrOffsets = 14
index_of ZdebugStrOffsets = 15
