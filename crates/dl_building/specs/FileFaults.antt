-- The numbers that stand for what is wrong with a file, beside those of a section.
use Rattle.std.specs.Prelude.{ℕ, Option, Some, None}
use Rattle.dl_buffers.specs.declared.record.FaultRecord.{FaultRecord}
use Rattle.dl_buffers.specs.declared.status.Status.{Status}
use Rattle.dl_buffers.specs.declared.status.Status.TheVariants as status
use Rattle.dl_buffers.specs.Records.{record_of}
use Rattle.dl_elf.specs.declared.fault.ElfFault.{ElfFault}
use Rattle.dl_elf.specs.declared.fault.ElfFault.TheVariants as elf
use Rattle.dl_open.specs.declared.fault.FileFault.TheVariants.{Elf}
use Rattle.dl_sections.specs.declared.fault.RunFault.{RunFault}
use Rattle.dl_sections.specs.declared.fault.RunFault.TheVariants as run
use Rattle.dl_program.specs.declared.stop.Stop.{Stop}
use Rattle.dl_program.specs.declared.stop.Stop.TheVariants as stop

-- a kind that says nothing besides
abbrev pub kind_record : ℕ → FaultRecord
kind_record kind = record { offset = 0; detail = 0; kind = kind }

-- of an ELF file; None where memory or a read is to blame
abbrev pub elf_record : ElfFault → Option FaultRecord
elf_record elf.NotElf = Some (kind_record 32)
elf_record (elf.Damaged part) = Some (kind_record 33)
elf_record (elf.NoLineSection id) = Some (kind_record 34)
elf_record (elf.Compressed name method) = Some (kind_record 35)
elf_record (elf.DamagedStream name at) = Some (record { offset = at; detail = 0; kind = 36 })
elf_record (elf.UnknownRelocation name number machine) = Some (record { offset = 0; detail = number; kind = 37 })
elf_record (elf.RelocationOutside name) = Some (kind_record 38)
elf_record (elf.Read error) = None
elf_record elf.NoMemory = None

-- of a section; None where memory is to blame
abbrev pub run_record : RunFault → Option FaultRecord
run_record (run.Damage offset kind) = Some (record_of offset kind)
run_record run.SectionTooLong = Some (kind_record 39)
run_record other = None

-- of the making of an index of a file
abbrev pub stop_record : Stop → Option FaultRecord
stop_record (stop.Run fault) = run_record fault
stop_record (stop.File path (Elf fault)) = elf_record fault
stop_record other = None

-- how a call ends that makes none
abbrev pub status_by : Option FaultRecord → Status
status_by (Some fault) = status.Fault
status_by None = status.NoMemory
