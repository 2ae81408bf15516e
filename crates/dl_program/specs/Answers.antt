-- What commands answer that count nothing, as those answer that count.
use Rattle.std.specs.Prelude.{Option, Some, None, Result, Ok, Err}
use Rattle.dl_print.specs.declared.summary.Summary.{Summary}
use Rattle.dl_sections.specs.declared.around.DamagedUnits.{DamagedUnits}
use Rattle.dl_sections.specs.declared.around.Survey.{Survey}
use Rattle.dl_sections.specs.declared.fault.RunFault.{RunFault}
use Rattle.dl_sections.specs.declared.fault.RunFault.TheVariants as fault
use Rattle.dl_addr.specs.declared.question.FoundAround.{FoundAround}
use Rattle.dl_addr.specs.declared.question.WhichFound.{WhichFound}
use Rattle.dl_addr.specs.declared.question.WhichFound.TheVariants as found
use Rattle.dl_dump.specs.declared.unit_dumping.UnitAt.{UnitAt}
use Rattle.dl_dump.specs.declared.unit_dumping.UnitAt.TheVariants as unit
use Rattle.dl_sources.specs.declared.question.SourcesAround.{SourcesAround}
use Rattle.dl_sources.specs.declared.question.Sums.{Sums}
use Rattle.dl_sources.specs.declared.question.Sums.TheVariants.{Agree, Differ}
use Rattle.dl_program.specs.declared.answers.TheConstants.{NOTHING}

-- what `addr` or `lines` answered, as the other commands answer
abbrev pub answered : Result WhichFound RunFault → Result Summary RunFault
answered (Ok found.All) = Ok NOTHING
answered (Ok found.NotAll) = Err fault.NotFound
answered (Err f) = Err f

-- the same of a dump of one unit
abbrev pub unit_shown : Result UnitAt RunFault → Result Summary RunFault
unit_shown (Ok unit.Whole) = Ok NOTHING
unit_shown (Ok unit.NoUnit) = Err fault.NoUnit
unit_shown (Err f) = Err f

-- the same of `sources`
abbrev pub summed : Result Sums RunFault → Result Summary RunFault
summed (Ok Agree) = Ok NOTHING
summed (Ok Differ) = Err fault.TwoSums
summed (Err f) = Err f

-- what a command answered that ends at the first damaged unit, as those answer that go on
abbrev pub all_whole : Result Summary RunFault → Result Survey RunFault
all_whole (Ok summary) = Ok (record { summary = summary; damaged = None })
all_whole (Err f) = Err f

-- where units are damaged their number is answered, else this
abbrev pub unless_damaged : Option DamagedUnits → Result Survey RunFault → Result Survey RunFault
unless_damaged (Some units) answer = Ok (record { summary = NOTHING; damaged = Some units })
unless_damaged None answer = answer

-- what `addr_around` or `lines_around` answered, as the other commands answer
abbrev pub answered_around : Result FoundAround RunFault → Result Survey RunFault
answered_around (Ok around) = unless_damaged around.damaged (all_whole (answered (Ok around.found)))
answered_around (Err f) = Err f

-- the same of `sources_around`
abbrev pub summed_around : Result SourcesAround RunFault → Result Survey RunFault
summed_around (Ok around) = unless_damaged around.damaged (all_whole (summed (Ok around.sums)))
summed_around (Err f) = Err f
