-- A finding as a JSON object (RFC 8259), in one line: what it says, under the names of its fields.
use Rattle.std.specs.Prelude.{ℕ, List, [], ◌++◌, codes, decimal, Option, Some, None}
use Rattle.dl_look.specs.declared.place.Place.{Place}
use Rattle.dl_findings.specs.declared.finding.Finding.{Finding}
use Rattle.dl_findings.specs.declared.finding.Found.{Found}
use Rattle.dl_findings.specs.declared.finding.Found.TheVariants as found
use Rattle.dl_findings.specs.declared.finding.Opcode.{Opcode}
use Rattle.dl_findings.specs.declared.finding.Opcode.TheVariants as opcode
use Rattle.dl_findings.specs.declared.finding.RowSeen.{RowSeen}
use Rattle.dl_findings.specs.declared.finding.TableEntry.{TableEntry}
use Rattle.dl_findings.specs.declared.finding.TableEntry.TheVariants as entry
use Rattle.dl_findings.specs.declared.finding.TextSection.{TextSection}
use Rattle.dl_findings.specs.FindingText.{address_text, rule_of, section_name, two_numbers}
use Rattle.dl_findings.specs.RuleNames.{rule_name}

-- where it is, and the rule
unfoldable pub object_start : (offset : ℕ) → (name : List ℕ) → List ℕ
object_start offset name = (codes "{\"offset\":" ++ decimal offset) ++ (codes ",\"rule\":\"" ++ (name ++ codes "\""))

-- an address as a string; the name has its quotes and the first of the string
unfoldable pub address_member : (name : List ℕ) → (address : ℕ) → List ℕ
address_member name address = name ++ (address_text address ++ codes "\"")

-- and then a number
unfoldable pub both_members : (name : List ℕ) → (address : ℕ) → (other : List ℕ) → (number : ℕ) → List ℕ
both_members name address other number = address_member name address ++ (other ++ decimal number)

unfoldable pub row_members : RowSeen → List ℕ
row_members r =
    (codes ",\"row\":" ++ decimal r.number)
    ++ both_members (codes ",\"address\":\"") r.place.address (codes ",\"op_index\":") r.place.op_index

-- what it is about
abbrev pub subject_members : Option RowSeen → List ℕ
subject_members None = []
subject_members (Some r) = row_members r

-- how many there are, and the number of the first
unfoldable pub counted_members : (name : List ℕ) → (count first : ℕ) → List ℕ
counted_members name count first = (name ++ decimal count) ++ (codes ",\"first\":" ++ decimal first)

unfoldable pub file_members : (file files first : ℕ) → List ℕ
file_members file files first = (codes ",\"file\":" ++ decimal file) ++ counted_members (codes ",\"files\":") files first

unfoldable pub directory_members : (file directory directories first : ℕ) → List ℕ
directory_members file directory directories first =
    (codes ",\"file\":" ++ decimal file)
    ++ ((codes ",\"directory\":" ++ decimal directory) ++ counted_members (codes ",\"directories\":") directories first)

abbrev pub opcode_members : Opcode → List ℕ
opcode_members (opcode.Standard b) = codes ",\"standard_opcode\":" ++ decimal b
opcode_members (opcode.Extended b) = codes ",\"extended_opcode\":" ++ decimal b

abbrev pub entry_members : TableEntry → List ℕ
entry_members (entry.Directory n) = codes ",\"directory\":" ++ decimal n
entry_members (entry.File n) = codes ",\"file\":" ++ decimal n

unfoldable pub missing_members : TableEntry → TextSection → (offset : ℕ) → List ℕ
missing_members e section offset =
    entry_members e
    ++ (codes ",\"section\":\"" ++ (section_name section ++ (codes "\",\"at\":" ++ decimal offset)))

-- what another sequence covers too, and the unit of that one
unfoldable pub overlap_members : Place → (unit : ℕ) → List ℕ
overlap_members place unit =
    both_members (codes ",\"covered\":\"") place.address (codes ",\"covered_op_index\":") place.op_index
    ++ (codes ",\"unit\":" ++ decimal unit)

unfoldable pub dead_members : (sequences first : ℕ) → List ℕ
dead_members sequences first = (codes ",\"sequences\":" ++ decimal sequences) ++ address_member (codes ",\"first\":\"") first

abbrev pub found_members : Found → List ℕ
found_members (found.FileIndex file files first) = file_members file files first
found_members (found.DirectoryIndex file directory directories first) = directory_members file directory directories first
found_members (found.FallingPlace before) =
    both_members (codes ",\"before\":\"") before.address (codes ",\"before_op_index\":") before.op_index
found_members found.NoEnd = []
found_members found.EmptySequence = []
found_members (found.Overlap place unit) = overlap_members place unit
found_members (found.DeadSequence sequences first) = dead_members sequences first
found_members (found.MissingText e section offset) = missing_members e section offset
found_members (found.DuplicateFile file same_as) =
    two_numbers (codes ",\"file\":") file (codes ",\"same_as\":") same_as
found_members (found.UnusedFile files first) = two_numbers (codes ",\"unused\":") files (codes ",\"first\":") first
found_members (found.Md5Missing files first) = two_numbers (codes ",\"without\":") files (codes ",\"first\":") first
found_members (found.LongNumber bytes) = codes ",\"bytes\":" ++ decimal bytes
found_members (found.Padding bytes) = codes ",\"bytes\":" ++ decimal bytes
found_members (found.WrappedAddress from size) = both_members (codes ",\"from\":\"") from (codes ",\"size\":") size
found_members (found.LineWrapped line) = codes ",\"line\":" ++ decimal line
found_members found.NoStatement = []
found_members (found.SplitInstruction first least) =
    both_members (codes ",\"first\":\"") first (codes ",\"least\":") least
found_members (found.UnknownOpcode o) = opcode_members o
found_members (found.UnknownContent code) = codes ",\"content_code\":" ++ decimal code
found_members (found.NoCode start size) =
    both_members (codes ",\"start\":\"") start (codes ",\"size\":") size

abbrev pub finding_object : Finding → List ℕ
finding_object f =
    object_start f.offset (rule_name (rule_of f.found))
    ++ (subject_members f.row ++ (found_members f.found ++ codes "}\n"))
