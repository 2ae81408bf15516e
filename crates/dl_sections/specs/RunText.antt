-- The texts and the statuses of the faults of a command.
use Rattle.std.specs.Prelude.{ℕ, List, ◌++◌, codes}
use Rattle.dl_print.specs.Digits.{hexadecimal}
use Rattle.dl_print.specs.Text.{damage_text}
use Rattle.dl_sections.specs.declared.fault.RunFault.{RunFault}
use Rattle.dl_sections.specs.declared.fault.RunFault.TheVariants.{Damage, NoMemory, Read, Write, SectionTooLong, NotFound, TwoSums}
use Rattle.dl_sections.specs.declared.fault.RunFault.TheVariants.{NoUnit, ForeignUnit, Emit}

abbrev pub run_fault_text : RunFault → List ℕ
run_fault_text (Damage offset kind) = damage_text offset kind
run_fault_text NoMemory = codes "out of memory"
run_fault_text Read = codes "cannot read the input"
run_fault_text (Write out) = codes "cannot write the output"
run_fault_text SectionTooLong = codes "section too long"
run_fault_text NotFound = codes "no line for this address"
run_fault_text TwoSums = codes "two MD5 sums of one path"
run_fault_text NoUnit = codes "no unit at this offset"
run_fault_text (ForeignUnit unit) = codes "unit 0x" ++ hexadecimal unit ++ codes " is not version 5"
run_fault_text (Emit unit fault) = codes "cannot write unit 0x" ++ hexadecimal unit ++ codes ": unit too long"

-- what the section is to blame for is 1, what memory, input and output are to blame for is 3
abbrev pub status : RunFault → ℕ
status (Damage offset kind) = 1
status NoMemory = 3
status Read = 3
status (Write out) = 3
status SectionTooLong = 1
status NotFound = 1
status TwoSums = 1
status NoUnit = 1
status (ForeignUnit unit) = 1
status (Emit unit fault) = 1
