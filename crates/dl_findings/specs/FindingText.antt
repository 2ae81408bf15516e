-- The line of a finding.
use Rattle.std.specs.Prelude.{ℕ, List, [], ◌++◌, codes, decimal, Option, Some, None}
use Rattle.dl_look.specs.declared.place.Place.{Place}
use Rattle.dl_print.specs.Digits.{hexadecimal, hexadecimal_of}
use Rattle.dl_print.specs.Text.{number_if_any}
use Rattle.dl_findings.specs.declared.finding.Finding.{Finding}
use Rattle.dl_findings.specs.declared.finding.Found.{Found}
use Rattle.dl_findings.specs.declared.finding.Found.TheVariants as found
use Rattle.dl_findings.specs.declared.finding.Opcode.{Opcode}
use Rattle.dl_findings.specs.declared.finding.Opcode.TheVariants as opcode
use Rattle.dl_findings.specs.declared.finding.RowSeen.{RowSeen}
use Rattle.dl_findings.specs.declared.finding.TableEntry.{TableEntry}
use Rattle.dl_findings.specs.declared.finding.TableEntry.TheVariants as entry
use Rattle.dl_findings.specs.declared.finding.TextSection.{TextSection}
use Rattle.dl_findings.specs.declared.finding.TextSection.TheVariants as texts
use Rattle.dl_findings.specs.declared.rule.Rule.{Rule}
use Rattle.dl_findings.specs.declared.rule.Rule.TheVariants as rule
use Rattle.dl_findings.specs.RuleNames.{rule_name}

-- the rule that finds it
abbrev pub rule_of : Found → Rule
rule_of (found.FileIndex file files first) = rule.FileIndex
rule_of (found.DirectoryIndex file directory directories first) = rule.DirectoryIndex
rule_of (found.FallingPlace before) = rule.FallingPlace
rule_of found.NoEnd = rule.NoEnd
rule_of found.EmptySequence = rule.EmptySequence
rule_of (found.Overlap place unit) = rule.Overlap
rule_of (found.DeadSequence sequences first) = rule.DeadSequence
rule_of (found.MissingText e section offset) = rule.MissingText
rule_of (found.DuplicateFile file same_as) = rule.DuplicateFile
rule_of (found.UnusedFile files first) = rule.UnusedFile
rule_of (found.Md5Missing files first) = rule.Md5Missing
rule_of (found.LongNumber bytes) = rule.LongNumber
rule_of (found.Padding bytes) = rule.Padding
rule_of (found.WrappedAddress from size) = rule.WrappedAddress
rule_of (found.LineWrapped line) = rule.LineWrapped
rule_of found.NoStatement = rule.NoStatement
rule_of (found.SplitInstruction first least) = rule.SplitInstruction
rule_of (found.UnknownOpcode o) = rule.UnknownOpcode
rule_of (found.UnknownContent code) = rule.UnknownOpcode
rule_of (found.NoCode start size) = rule.NoCode

abbrev pub address_text : (address : ℕ) → List ℕ
address_text address = codes "0x" ++ hexadecimal_of 16 address

-- an address, with the op_index where that isn't 0
unfoldable pub place_text : Place → List ℕ
place_text p = address_text p.address ++ number_if_any (codes " op_index ") p.op_index

unfoldable pub row_text : RowSeen → List ℕ
row_text r = (codes "row " ++ decimal r.number) ++ (codes " at " ++ (place_text r.place ++ codes " "))

-- what it is about
abbrev pub subject_text : Option RowSeen → List ℕ
subject_text None = []
subject_text (Some r) = row_text r

-- how many files or directories there are
unfoldable pub numbered_text : (files first : ℕ) → List ℕ
numbered_text files first = (codes " of " ++ decimal files) ++ (codes ", numbered from " ++ decimal first)

unfoldable pub file_index_text : (file files first : ℕ) → List ℕ
file_index_text file files first = (codes "names file " ++ decimal file) ++ numbered_text files first

unfoldable pub directory_index_text : (file directory directories first : ℕ) → List ℕ
directory_index_text file directory directories first =
    (codes "file " ++ decimal file) ++ ((codes " names directory " ++ decimal directory) ++ numbered_text directories first)

-- two numbers, each after a name
unfoldable pub two_numbers : (name : List ℕ) → (number : ℕ) → (other : List ℕ) → (second : ℕ) → List ℕ
two_numbers name number other second = (name ++ decimal number) ++ (other ++ decimal second)

unfoldable pub section_name : TextSection → List ℕ
section_name texts.DebugLineStr = codes ".debug_line_str"
section_name texts.DebugStr = codes ".debug_str"

abbrev pub entry_text : TableEntry → List ℕ
entry_text (entry.Directory n) = codes "directory " ++ decimal n
entry_text (entry.File n) = codes "file " ++ decimal n

unfoldable pub missing_text : TableEntry → TextSection → (offset : ℕ) → List ℕ
missing_text e section offset =
    entry_text e
    ++ (codes " has a text at " ++ ((codes "0x" ++ hexadecimal offset)
    ++ (codes " of " ++ (section_name section ++ codes ", which has none there"))))

unfoldable pub long_text : (bytes : ℕ) → List ℕ
long_text bytes = codes "a number in LEB128 has " ++ (decimal bytes ++ codes " bytes")

unfoldable pub padding_text : (bytes : ℕ) → List ℕ
padding_text bytes = decimal bytes ++ codes " bytes stand between the tables and the program"

unfoldable pub split_text : (first least : ℕ) → List ℕ
split_text first least =
    codes "lies no multiple of "
    ++ (decimal least ++ (codes " bytes from " ++ (address_text first ++ codes ", where its sequence begins")))

unfoldable pub wrapped_text : (from size : ℕ) → List ℕ
wrapped_text from size =
    codes "an advance from "
    ++ (address_text from ++ (codes " goes past an address of " ++ (decimal size ++ codes " bytes")))

unfoldable pub overlap_text : Place → (unit : ℕ) → List ℕ
overlap_text place unit =
    codes "ends a sequence that covers "
    ++ (place_text place ++ (codes ", as one of the unit at " ++ ((codes "0x" ++ hexadecimal unit) ++ codes " does")))

unfoldable pub dead_text : (sequences first : ℕ) → List ℕ
dead_text sequences first =
    decimal sequences ++ (codes " sequences begin outside the code, the first at " ++ address_text first)

unfoldable pub no_code_text : (start size : ℕ) → List ℕ
no_code_text start size =
    (codes "no sequence covers an address of the " ++ decimal size)
    ++ (codes " bytes of code from " ++ (address_text start ++ codes " on"))

-- what is passed over
unfoldable pub passed_text : (name : List ℕ) → (code : ℕ) → List ℕ
passed_text name code = name ++ (hexadecimal code ++ codes " is passed over")

abbrev pub opcode_text : Opcode → List ℕ
opcode_text (opcode.Standard b) = passed_text (codes "standard opcode 0x") b
opcode_text (opcode.Extended b) = passed_text (codes "extended opcode 0x") b

abbrev pub found_text : Found → List ℕ
found_text (found.FileIndex file files first) = file_index_text file files first
found_text (found.DirectoryIndex file directory directories first) =
    directory_index_text file directory directories first
found_text (found.FallingPlace before) = codes "is below the row before it at " ++ place_text before
found_text found.NoEnd = codes "is the last of its unit and no end row"
found_text found.EmptySequence = codes "ends a sequence that covers no address"
found_text (found.Overlap place unit) = overlap_text place unit
found_text (found.DeadSequence sequences first) = dead_text sequences first
found_text (found.MissingText e section offset) = missing_text e section offset
found_text (found.DuplicateFile file same_as) =
    two_numbers (codes "file ") file (codes " has all values of file ") same_as
found_text (found.UnusedFile files first) =
    two_numbers (codes "no row names ") files (codes " of the files, the first is file ") first
found_text (found.Md5Missing files first) =
    two_numbers (codes "no MD5 sum is given for ") files (codes " of the files, the first is file ") first
found_text (found.LongNumber bytes) = long_text bytes
found_text (found.Padding bytes) = padding_text bytes
found_text (found.WrappedAddress from size) = wrapped_text from size
found_text (found.LineWrapped line) = codes "has line " ++ decimal line
found_text found.NoStatement = codes "ends a sequence in which no row is a statement"
found_text (found.SplitInstruction first least) = split_text first least
found_text (found.UnknownOpcode o) = opcode_text o
found_text (found.UnknownContent code) = passed_text (codes "content code 0x") code
found_text (found.NoCode start size) = no_code_text start size

-- where it is, and the rule
unfoldable pub finding_start : (offset : ℕ) → (name : List ℕ) → List ℕ
finding_start offset name = (codes "0x" ++ hexadecimal offset) ++ (codes " " ++ (name ++ codes ": "))

abbrev pub finding_line : Finding → List ℕ
finding_line f =
    finding_start f.offset (rule_name (rule_of f.found))
    ++ (subject_text f.row ++ (found_text f.found ++ codes "\n"))
