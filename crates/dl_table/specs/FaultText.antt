-- The texts of faults.
use Rattle.std.specs.Prelude.{ℕ, false, List, ◌++◌, codes, decimal}
use Rattle.std.specs.Fmt.{digits}
use Rattle.dl_table.specs.declared.fault.FaultKind.{FaultKind}
use Rattle.dl_table.specs.declared.fault.FaultKind.TheVariants as fault

abbrev pub fault_text : FaultKind → List ℕ
fault_text fault.ReservedLength = codes "reserved initial length"
fault_text fault.UnitTooLong = codes "unit too long"
fault_text fault.UnitOverrun = codes "unit ends in its header"
fault_text fault.AddressSize = codes "bad address size"
fault_text fault.HeaderBeyondUnit = codes "header goes past the unit"
fault_text fault.HeaderOverrun = codes "header ends too soon"
fault_text fault.MaxOps = codes "maximum operations is 0"
fault_text fault.LineRange = codes "line range is 0"
fault_text fault.OpcodeBase = codes "opcode base is 0"
fault_text (fault.StandardLength n) = codes "wrong length of standard opcode " ++ decimal n
fault_text (fault.UnknownForm c) = codes "unknown form 0x" ++ digits 16 false c
fault_text fault.EmptyFormat = codes "entries without a format"
fault_text fault.LebRange = codes "number out of range"
fault_text fault.ExtendedEmpty = codes "empty extended opcode"
fault_text fault.ExtendedLength = codes "wrong length of extended opcode"
fault_text fault.OpcodeOverrun = codes "unit ends inside an opcode"
fault_text fault.Truncated = codes "input ends inside a unit"
