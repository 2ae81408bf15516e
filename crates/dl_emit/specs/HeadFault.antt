-- A header's fault as a unit's. No promise rests on this file.
use Rattle.dl_table.specs.declared.counted.HeadWrite.{HeadWrite}
use Rattle.dl_table.specs.declared.counted.HeadWrite.TheVariants as head
use Rattle.dl_emit.specs.declared.fault.EmitFault.{EmitFault}
use Rattle.dl_emit.specs.declared.fault.EmitFault.TheVariants as fault

abbrev pub emit_fault : HeadWrite → EmitFault
emit_fault head.TooLong = fault.TooLong
emit_fault (head.Write out) = fault.Write out
