-- How the work over an ELF file stops: what is wrong with the file, its text and its status.
use Rattle.std.specs.Prelude.{◌≡◌, ℕ, List, ◌++◌, codes, Option, Some, None}
use Rattle.dl_elf.specs.FaultText.{fault_text}
use Rattle.dl_elf.specs.declared.name.SectionName.{SectionName}
use Rattle.dl_elf.specs.declared.fault.ElfFault.{ElfFault}
use Rattle.dl_elf.specs.declared.fault.ElfFault.TheVariants.{Read, DamagedStream, NoMemory as Refused}
use Rattle.dl_file.specs.declared.read_fault.ReadFault.{ReadFault}
use Rattle.dl_file.specs.declared.read_fault.ReadFault.TheVariants.{Read as ReadOf, DamagedStream as DamageOf}
use Rattle.std.specs.declared.io.Error.{Error}
use Rattle.dl_sections.specs.declared.fault.RunFault.{RunFault}
use Rattle.dl_sections.specs.declared.fault.RunFault.TheVariants as fault
use Rattle.dl_open.specs.declared.fault.FileFault.{FileFault}
use Rattle.dl_open.specs.declared.fault.FileFault.TheVariants.{Open, Elf, ObjectCopy, NotRelative, NoMemory}
use Rattle.dl_open.specs.declared.stop.FileStop.{FileStop}
use Rattle.dl_open.specs.declared.stop.FileStop.TheVariants.{Run, File}

-- the text of a fault; None where the system words it
abbrev pub file_fault_text : FileFault → Option (List ℕ)
file_fault_text (Open error) = None
file_fault_text (Elf f) = fault_text f
file_fault_text NotRelative = Some (codes "its addresses are not relative to a section")
file_fault_text ObjectCopy = Some (codes "an object file; its copy would lose its relocations")
file_fault_text NoMemory = Some (codes "out of memory")

-- the line on standard error, of this text
abbrev pub stop_line : List ℕ → List ℕ
stop_line text = codes "dwline: " ++ text ++ codes "\n"

-- 1 where the file is to blame, 3 for memory and reads
abbrev pub file_fault_status : FileFault → ℕ
file_fault_status (Open error) = 3
file_fault_status (Elf (Read error)) = 3
file_fault_status (Elf Refused) = 3
file_fault_status (Elf f) = 1
file_fault_status ObjectCopy = 1
file_fault_status NotRelative = 1
file_fault_status NoMemory = 3

-- ---- stops at the ELF file of a path

-- it is this fault of the file
abbrev pub IsAt : (path : List ℕ) → FileFault → FileStop → Type 0
IsAt path f (File p g) = (p.now ≡ path) × (g ≡ f)
IsAt path f stop = ⊥

-- a section that is inflated as it is read: its name, and the byte that shows its damage, if it has some
abbrev pub Stream : Type 0
Stream = SectionName × Option ℕ

-- what is told of a file where a read failed of a section, which is inflated where it is a stream; its damage is told where
-- it is. fails: the errors that reading the file may give
abbrev pub IsReadFault : (fails : Error → Type 0) (stream : Option Stream) → ElfFault → Type 0
IsReadFault fails stream (Read error) = fails error
IsReadFault fails stream (DamagedStream name at) = stream ≡ Some (name, Some at)
IsReadFault fails stream f = ⊥

-- the fault of a run over a section of the file. Reads and memory are told with its path, and what is wrong with a
-- section without
abbrev pub StopsAt : (fails : Error → Type 0) (path : List ℕ) (stream : Option Stream) → RunFault → FileStop → Type 0
StopsAt fails path stream fault.Read stop = (f : ElfFault) × IsReadFault fails stream f × IsAt path (Elf f) stop
StopsAt fails path stream fault.NoMemory stop = IsAt path NoMemory stop
StopsAt fails path stream f stop = stop ≡ Run f

-- ---- by why the last read of a section failed. stream: its name where it is inflated

-- what is told of the file: the damage of the stream, or the error of the read
abbrev pub IsTold : (stream : Option SectionName) → Option ReadFault → ElfFault → Type 0
IsTold (Some name) (Some (DamageOf at)) f = f ≡ DamagedStream name at
IsTold stream (Some (ReadOf error)) f = f ≡ Read error
IsTold stream read f = Unit {0}

abbrev pub StopsAs : (path : List ℕ) (stream : Option SectionName) → Option ReadFault → RunFault → FileStop → Type 0
StopsAs path stream read fault.Read stop = (f : ElfFault) × IsTold stream read f × IsAt path (Elf f) stop
StopsAs path stream read fault.NoMemory stop = IsAt path NoMemory stop
StopsAs path stream read f stop = stop ≡ Run f
