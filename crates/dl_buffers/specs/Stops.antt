-- What a call tells where a section isn't read to its end. No promise rests on this file.
use Rattle.std.specs.Prelude.{ℕ, Option, Some, None}
use Rattle.dl_print.specs.Counts.{add}
use Rattle.dl_sections.specs.declared.around.DamagedUnits.{DamagedUnits}
use Rattle.dl_sections.specs.declared.in_memory.SectionStop.{SectionStop}
use Rattle.dl_sections.specs.declared.in_memory.SectionStop.TheVariants as stop
use Rattle.dl_buffers.specs.declared.record.FaultRecord.{FaultRecord}
use Rattle.dl_buffers.specs.declared.status.Status.{Status}
use Rattle.dl_buffers.specs.declared.status.Status.TheVariants as status
use Rattle.dl_buffers.specs.Records.{record_of}

-- the fault that stands after it, where f stood; the bytes are those of a section from that offset on
abbrev pub fault_told : SectionStop → (offset : ℕ) → FaultRecord → FaultRecord
fault_told (stop.Damaged at kind) offset f = record_of (add offset at) kind
fault_told stop.NoMemory offset f = f

abbrev pub status_of : SectionStop → Status
status_of (stop.Damaged at kind) = status.Fault
status_of stop.NoMemory = status.NoMemory

-- the fault that stands after a section is read around damaged units, where f stood
abbrev pub damage_told : Option DamagedUnits → FaultRecord → FaultRecord
damage_told None f = f
damage_told (Some units) f = record_of units.first.offset units.first.kind

abbrev pub status_around : Option DamagedUnits → Status
status_around None = status.Done
status_around (Some units) = status.Fault

-- how many rows are told of those that were found, where m stood
abbrev pub count_told : SectionStop → (found m : ℕ) → ℕ
count_told (stop.Damaged at kind) found m = found
count_told stop.NoMemory found m = m
