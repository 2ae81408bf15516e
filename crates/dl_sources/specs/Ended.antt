-- What is answered, by how the reading ended and what was printed. No promise rests on this file.
use Rattle.std.specs.Prelude.{Bool, true, false, Result, Ok, Err}
use Rattle.dl_print.specs.declared.fault.WriteFault.{WriteFault}
use Rattle.dl_sections.specs.declared.fault.RunFault.{RunFault}
use Rattle.dl_sections.specs.declared.fault.RunFault.TheVariants as fault
use Rattle.dl_sections.specs.declared.around.Survey.{Survey}
use Rattle.dl_sources.specs.declared.question.SourcesAround.{SourcesAround}
use Rattle.dl_sources.specs.declared.question.Sums.{Sums}

-- memory was refused
abbrev pub is_want : {A : Type 0} → Result A RunFault → Bool
is_want (Err fault.NoMemory) = true
is_want other = false

-- a failed write is told, else the fault of the reading
abbrev pub told : {A : Type 0} → Result A RunFault → Result Sums WriteFault → Result Sums RunFault
told ended (Err lost) = Err (fault.Write lost.out)
told (Ok summary) (Ok sums) = Ok sums
told (Err f) (Ok sums) = Err f

-- the same of a section of which units may be damaged
abbrev pub told_around : Result Survey RunFault → Result Sums WriteFault → Result SourcesAround RunFault
told_around ended (Err lost) = Err (fault.Write lost.out)
told_around (Ok survey) (Ok sums) = Ok (record { sums = sums; damaged = survey.damaged })
told_around (Err f) (Ok sums) = Err f
