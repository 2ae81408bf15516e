-- The build ID of a file. System V ABI, chapter 5, "Note Section". f: the bytes of the file.
use Rattle.std.specs.Prelude.{◌≡◌, ℕ, List, Option, Ok, Err}
use Rattle.std.specs.declared.io.Error.{Error}
use Rattle.dl_elf.specs.declared.fault.ElfFault.{ElfFault}
use Rattle.dl_elf.specs.declared.fault.ElfFault.TheVariants.{Read}
use Rattle.dl_elf.specs.declared.file.Elf.{Elf}
use Rattle.dl_elf.specs.declared.name.SectionName.TheVariants.{BuildIdNote}
use Rattle.dl_elf.specs.declared.named.NamedSection.{NamedSection}
use Rattle.dl_elf.specs.Found.{Found}
use Rattle.dl_elf.specs.Notes.{build_id_of}
use Rattle.dl_elf.specs.Sections.{opened}

-- that of the first section .note.gnu.build-id; None where there is none that is usable
abbrev pub IsBuildId : (f : List ℕ) → Option (List ℕ) → Type 0
IsBuildId f id =
    (e : Elf) × (opened f ≡ Ok e) × (note : Option NamedSection) × Found e f BuildIdNote note × (id ≡ build_id_of e f note)

-- why it can't be told: the headers can't be read. fails: the errors that reading the file may give
abbrev pub RefusesBuildId : (fails : Error → Type 0) (f : List ℕ) → ElfFault → Type 0
RefusesBuildId fails f (Read error) = fails error
RefusesBuildId fails f fault = opened f ≡ Err fault
