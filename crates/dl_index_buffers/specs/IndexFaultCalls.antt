-- What the call that tells the text of a fault of an index answers.
use Rattle.std.specs.Prelude.{ℕ, List, [], ◌++◌, codes, decimal}
use Rattle.std.specs.Option.{option_map_or}
use Rattle.dl_index.specs.FaultText.{part_text}
use Rattle.dl_index.specs.declared.fault.IndexFault.{IndexFault}
use Rattle.dl_index.specs.declared.fault.IndexFault.TheVariants.{NotAnIndex, Version, Damaged}
use Rattle.dl_index_buffers.specs.IndexRecords.{told_fault}
use Rattle.dl_index_buffers.specs.declared.record.IndexFaultRecord.{IndexFaultRecord}

-- the text of a fault, as `IndexFault` has it
abbrev pub index_fault_text : IndexFault → List ℕ
index_fault_text NotAnIndex = codes "not an index"
index_fault_text (Version n) = codes "an index of version " ++ decimal n
index_fault_text (Damaged part) = codes "damaged index: " ++ part_text part

-- the text of the fault that the numbers stand for; none where they stand for none
abbrev pub told_text : IndexFaultRecord → List ℕ
told_text f = option_map_or index_fault_text (told_fault f) []
