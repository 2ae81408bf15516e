-- How the reading of a section in memory ends, as a call tells it.
use Rattle.std.specs.Prelude.{Option, Some, None, Result, Ok, Err}
use Rattle.dl_buffers.specs.Records.{record_of}
use Rattle.dl_print.specs.declared.summary.Summary.{Summary}
use Rattle.dl_sections.specs.declared.around.DamagedUnits.{DamagedUnits}
use Rattle.dl_sections.specs.declared.around.Survey.{Survey}
use Rattle.dl_sections.specs.declared.fault.RunFault.{RunFault}
use Rattle.dl_sections.specs.declared.fault.RunFault.TheVariants as run
use Rattle.dl_source_buffers.specs.declared.end.End.{End}
use Rattle.dl_source_buffers.specs.declared.end.End.TheVariants.{Whole, Fault, NoMemory}

-- of a section with more than 2^44 bytes the fault says nothing besides
abbrev pub fault_end : RunFault → End
fault_end (run.Damage offset kind) = Fault (record_of offset kind)
fault_end run.SectionTooLong = Fault (record { offset = 0; detail = 0; kind = 39 })
fault_end other = NoMemory

abbrev pub damage_end : Option DamagedUnits → End
damage_end None = Whole
damage_end (Some units) = Fault (record_of units.first.offset units.first.kind)

-- up to the first fault
abbrev pub end_of : Result Summary RunFault → End
end_of (Ok summary) = Whole
end_of (Err fault) = fault_end fault

-- around damaged units, of which the first is told
abbrev pub end_around : Result Survey RunFault → End
end_around (Ok survey) = damage_end survey.damaged
end_around (Err fault) = fault_end fault
