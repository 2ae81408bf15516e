-- When a command has read a section to its end.
use Rattle.std.specs.Prelude.{⊤, ◌≡◌, None, Result, Ok, Err}
use Rattle.dl_sections.specs.declared.around.Survey.{Survey}
use Rattle.dl_sections.specs.declared.fault.RunFault.{RunFault}
use Rattle.dl_sections.specs.declared.fault.RunFault.TheVariants.{NoUnit, NotFound, TwoSums}
use Rattle.dl_program.specs.declared.command.Command.{Command}
use Rattle.dl_program.specs.declared.command.Command.TheVariants.{Addr, AddrAround, DumpUnit, Find, Lines, LinesAround, Sources}
use Rattle.dl_program.specs.declared.command.Command.TheVariants.{SourcesAround, SourcesUnit}

-- by what it answers: success around no damaged unit, that something wasn't found, or that sums differ. `find` ends at what
-- it finds, and a dump of one unit at its end, as the source files of one are told; of these it is answered where no unit begins
abbrev pub HasReadAll : Command → Result Survey RunFault → Type 0
HasReadAll (Find place) (Err NotFound) = ⊤
HasReadAll (Find place) other = ⊥
HasReadAll (DumpUnit details unit) (Err NoUnit) = ⊤
HasReadAll (DumpUnit details unit) other = ⊥
HasReadAll (Addr question) (Err NotFound) = ⊤
HasReadAll (AddrAround question) (Err NotFound) = ⊤
HasReadAll (Lines question) (Err NotFound) = ⊤
HasReadAll (LinesAround question) (Err NotFound) = ⊤
HasReadAll (Sources question) (Err TwoSums) = ⊤
HasReadAll (SourcesAround question) (Err TwoSums) = ⊤
HasReadAll (SourcesUnit question unit) (Err NoUnit) = ⊤
HasReadAll (SourcesUnit question unit) other = ⊥
HasReadAll command (Ok survey) = survey.damaged ≡ None
HasReadAll command (Err f) = ⊥
