-- A finding as a record of 72 bytes: nine numbers of eight bytes each, the least significant byte first.
use Rattle.std.specs.Prelude.{ℕ, List, [], ◌∷◌, ◌++◌, flat_map, Option, Some, None}
use Rattle.std.specs.Int.{w64, to_le_bytes}
use Rattle.dl_findings.specs.declared.finding.Finding.{Finding}
use Rattle.dl_findings.specs.declared.finding.Found.{Found}
use Rattle.dl_findings.specs.declared.finding.Found.TheVariants as found
use Rattle.dl_findings.specs.declared.finding.Opcode.{Opcode}
use Rattle.dl_findings.specs.declared.finding.Opcode.TheVariants as opcode
use Rattle.dl_findings.specs.declared.finding.RowSeen.{RowSeen}
use Rattle.dl_findings.specs.declared.finding.TableEntry.{TableEntry}
use Rattle.dl_findings.specs.declared.finding.TableEntry.TheVariants as entry
use Rattle.dl_findings.specs.declared.finding.TextSection.{TextSection}
use Rattle.dl_findings.specs.declared.finding.TextSection.TheVariants as texts
use Rattle.dl_findings.specs.FindingText.{rule_of}
use Rattle.dl_findings.specs.RuleNames.{rule_place}

-- the row that it is about: its number, address and op_index
abbrev pub row_numbers : Option RowSeen → List ℕ
row_numbers None = 0 ∷ 0 ∷ 0 ∷ []
row_numbers (Some r) = r.number ∷ r.place.address ∷ r.place.op_index ∷ []

abbrev pub section_number : TextSection → ℕ
section_number texts.DebugLineStr = 0
section_number texts.DebugStr = 1

-- a text at an offset of a section
abbrev pub missing_numbers : TableEntry → TextSection → (offset : ℕ) → List ℕ
missing_numbers (entry.Directory n) section offset = 0 ∷ n ∷ section_number section ∷ offset ∷ []
missing_numbers (entry.File n) section offset = 1 ∷ n ∷ section_number section ∷ offset ∷ []

-- what is passed over: 0 and a standard opcode, 1 and an extended one; below, 2 and a content code
abbrev pub opcode_numbers : Opcode → List ℕ
opcode_numbers (opcode.Standard b) = 0 ∷ b ∷ 0 ∷ 0 ∷ []
opcode_numbers (opcode.Extended b) = 1 ∷ b ∷ 0 ∷ 0 ∷ []

-- what is found: four numbers
abbrev pub found_numbers : Found → List ℕ
found_numbers (found.FileIndex file files first) = file ∷ files ∷ first ∷ 0 ∷ []
found_numbers (found.DirectoryIndex file directory directories first) = file ∷ directory ∷ directories ∷ first ∷ []
found_numbers (found.FallingPlace before) = before.address ∷ before.op_index ∷ 0 ∷ 0 ∷ []
found_numbers found.NoEnd = 0 ∷ 0 ∷ 0 ∷ 0 ∷ []
found_numbers found.EmptySequence = 0 ∷ 0 ∷ 0 ∷ 0 ∷ []
found_numbers (found.Overlap place unit) = place.address ∷ place.op_index ∷ unit ∷ 0 ∷ []
found_numbers (found.DeadSequence sequences first) = sequences ∷ first ∷ 0 ∷ 0 ∷ []
found_numbers (found.MissingText e section offset) = missing_numbers e section offset
found_numbers (found.DuplicateFile file same_as) = file ∷ same_as ∷ 0 ∷ 0 ∷ []
found_numbers (found.UnusedFile files first) = files ∷ first ∷ 0 ∷ 0 ∷ []
found_numbers (found.Md5Missing files first) = files ∷ first ∷ 0 ∷ 0 ∷ []
found_numbers (found.LongNumber bytes) = bytes ∷ 0 ∷ 0 ∷ 0 ∷ []
found_numbers (found.Padding bytes) = bytes ∷ 0 ∷ 0 ∷ 0 ∷ []
found_numbers (found.WrappedAddress from size) = from ∷ size ∷ 0 ∷ 0 ∷ []
found_numbers (found.LineWrapped line) = line ∷ 0 ∷ 0 ∷ 0 ∷ []
found_numbers found.NoStatement = 0 ∷ 0 ∷ 0 ∷ 0 ∷ []
found_numbers (found.SplitInstruction first least) = first ∷ least ∷ 0 ∷ 0 ∷ []
found_numbers (found.UnknownOpcode o) = opcode_numbers o
found_numbers (found.UnknownContent code) = 2 ∷ code ∷ 0 ∷ 0 ∷ []
found_numbers (found.NoCode start size) = start ∷ size ∷ 0 ∷ 0 ∷ []

-- where it is, the place of its rule, the row that it is about, and what is found
abbrev pub record_numbers : Finding → List ℕ
record_numbers f = (f.offset ∷ rule_place (rule_of f.found) ∷ []) ++ (row_numbers f.row ++ found_numbers f.found)

-- numbers of eight bytes each
abbrev pub eight_bytes_each : List ℕ → List ℕ
eight_bytes_each numbers = flat_map (to_le_bytes w64) numbers

abbrev pub finding_record : Finding → List ℕ
finding_record f = eight_bytes_each (record_numbers f)
