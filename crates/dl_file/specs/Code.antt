-- Where a file has code. f: the bytes of a file; e: the file as it is opened.
use Rattle.std.specs.Prelude.{◌≡◌, ℕ, ◌<◌, ◌≤◌, if◌then◌else◌, List, Option, Some, None}
use Rattle.std.specs.List.{filter_map}
use Rattle.std.specs.Prelude.{option_and_then, Result, Ok, Err}
use Rattle.std.specs.declared.io.Error.{Error}
use Rattle.dl_elf.specs.declared.section.SectionHeader.{SectionHeader}
use Rattle.dl_elf.specs.declared.file.Elf.{Elf}
use Rattle.dl_elf.specs.declared.fault.ElfFault.TheVariants as fault
use Rattle.dl_file.specs.declared.code.ExecutableRange.{ExecutableRange}
use Rattle.dl_file.specs.declared.code.Code.{Code}
use Rattle.dl_file.specs.declared.code.CodeFault.{CodeFault}
use Rattle.dl_file.specs.declared.code.CodeFault.TheVariants.{Elf as Refused, NoMemory}
use Rattle.dl_memory.specs.Refusals.{IsRefused}
use Rattle.dl_elf.specs.Elf.{is_executable, is_linked}
use Rattle.dl_elf.specs.Sections.{opened, section_headers, section_in}

-- sh_addr and sh_size of a section with code
abbrev pub executable_range : SectionHeader → Option ExecutableRange
executable_range s = if is_executable s then Some (record { start = s.address; size = s.size }) else None

-- those of section i
abbrev pub executable_range_at : Elf → List ℕ → ℕ → Option ExecutableRange
executable_range_at e f i = option_and_then executable_range (section_in e.header f i)

-- those of all sections, in order
abbrev pub executable_ranges : Elf → List ℕ → List ExecutableRange
executable_ranges e f = filter_map (option_and_then executable_range) (section_headers e f)

-- a section has code
pub record HasCode (e : Elf) (f : List ℕ) : Type 0 where
  pub at : ℕ
  pub from : 1 ≤ at
  pub within : at < e.count
  pub range : ExecutableRange
  pub has : executable_range_at e f at ≡ Some range

-- why the ranges can't be had: a read failed, or a growth was refused, for which a section has to have code
abbrev pub StopsRanges : Elf → List ℕ → CodeFault → Type 0
StopsRanges e f (Refused (fault.Read error)) = Unit {0}
StopsRanges e f NoMemory = HasCode e f
StopsRanges e f other = ⊥

-- what find_code answers for a file with these bytes
abbrev pub IsCode : List ℕ → Result Code CodeFault → Type 0
IsCode f (Ok code) =
    (e : Elf) × (opened f ≡ Ok e) × (code.is_linked ≡ is_linked e.header) × (code.ranges.items ≡ executable_ranges e f)
IsCode f (Err NoMemory) = (e : Elf) × (opened f ≡ Ok e) × HasCode e f
IsCode f (Err (Refused (fault.Read error))) = Unit {0}
IsCode f (Err (Refused other)) = opened f ≡ Err other

-- memory was refused for a list of no more ranges than the file has sections
abbrev pub RangesRefused : (refuses : ℕ → Type 0) → List ℕ → Type 0
RangesRefused refuses f = (e : Elf) × (opened f ≡ Ok e) × IsRefused refuses e.count

-- where memory is wanted, it was refused so
abbrev pub IfCodeRefused : {A : Type 0} → (Refusal : Type 0) → Result A CodeFault → Type 0
IfCodeRefused Refusal (Err NoMemory) = Refusal
IfCodeRefused Refusal result = Unit {0}

-- where a read failed, its error is such a one
abbrev pub IfCodeRead : {A : Type 0} → (Error → Type 0) → Result A CodeFault → Type 0
IfCodeRead Fails (Err (Refused (fault.Read error))) = Fails error
IfCodeRead Fails result = Unit {0}
