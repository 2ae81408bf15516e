-- What stops the work over a file before its line table is read.
use Rattle.std.specs.Prelude.{⊤, Result, IfErr}
use Rattle.dl_sections.specs.declared.fault.RunFault.TheVariants as fault
use Rattle.dl_open.specs.declared.stop.FileStop.{FileStop}
use Rattle.dl_open.specs.declared.stop.FileStop.TheVariants.{Run}

-- it is told of the file, or a section of it is too long: no write failed
abbrev pub IsOfFile : FileStop → Type 0
IsOfFile (Run fault.SectionTooLong) = ⊤
IsOfFile (Run other) = ⊥
IsOfFile stop = ⊤

abbrev pub BlamesFile : {A : Type 0} → Result A FileStop → Type 0
BlamesFile result = IfErr result IsOfFile
