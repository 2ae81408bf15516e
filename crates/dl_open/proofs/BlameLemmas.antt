-- What stops the work over a file before its line table is read: a fault of the file, or that a section of it is too long.
use Rattle.std.proofs.Common.{ℕ, List, Option, subst, sym}
use Rattle.dl_elf.specs.declared.name.SectionName.{SectionName}
use Rattle.dl_file.specs.declared.read_fault.ReadFault.{ReadFault}
use Rattle.dl_head.specs.declared.dialect.Dialect.{Dialect}
use Rattle.dl_sections.specs.Strings.{StopsReading}
use Rattle.dl_sections.specs.declared.fault.RunFault.{RunFault}
use Rattle.dl_sections.specs.declared.fault.RunFault.TheVariants as fault
use Rattle.dl_open.specs.Blaming.{IsOfFile}
use Rattle.dl_open.specs.Stops.{StopsAs}
use Rattle.dl_open.specs.Tables.{StopsNaming}
use Rattle.dl_open.specs.declared.stop.FileStop.{FileStop}
use Rattle.dl_open.specs.declared.stop.FileStop.TheVariants.{File, NoSection, Run}

-- a read failed, memory was refused, or there are too many bytes
abbrev pub IsOfReading : RunFault → Type 0
IsOfReading fault.Read = Unit {0}
IsOfReading fault.NoMemory = Unit {0}
IsOfReading fault.SectionTooLong = Unit {0}
IsOfReading other = ⊥

pub naming_reads : (dialect : Dialect) (known : Option (List ℕ)) (f : RunFault) → StopsNaming dialect known f → IsOfReading f
naming_reads dialect known fault.Read stops = tt
naming_reads dialect known fault.NoMemory stops = tt
naming_reads dialect known fault.SectionTooLong stops = tt
naming_reads dialect known other stops = absurd stops

pub reading_reads : (refuses : ℕ → Type 0) (limit : ℕ) (bytes : List ℕ) (f : RunFault) → StopsReading refuses limit bytes f
    → IsOfReading f
reading_reads refuses limit bytes fault.Read stops = tt
reading_reads refuses limit bytes fault.NoMemory stops = tt
reading_reads refuses limit bytes fault.SectionTooLong stops = tt
reading_reads refuses limit bytes other stops = absurd stops

-- the stop of such a run
pub of_file : (path : List ℕ) (stream : Option SectionName) (read : Option ReadFault) (f : RunFault) (stop : FileStop)
    → IsOfReading f → StopsAs path stream read f stop → IsOfFile stop
of_file path stream read f (File p g) of at = tt
of_file path stream read f (NoSection p n) of at = tt
of_file path stream read f (Run g) of at = by f of at
  where
    by : (f : RunFault) → IsOfReading f → StopsAs path stream read f (Run g) → IsOfFile (Run g)
    by fault.Read of at = absurd at.2
    by fault.NoMemory of at = absurd at
    by fault.SectionTooLong of at = subst IsOfFile (sym at) tt
    by other of at = absurd of
