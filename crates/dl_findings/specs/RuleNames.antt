-- The rules, and their names.
use Rattle.std.specs.Prelude.{ℕ, List, [], ◌∷◌, codes, Option}
use Rattle.std.specs.List.{find}
use Rattle.std.specs.Str.{bytes_eq}
use Rattle.dl_findings.specs.declared.rule.Rule.{Rule}
use Rattle.dl_findings.specs.declared.rule.Rule.TheVariants as rule

-- the name by which a rule is told and chosen
unfoldable pub rule_name : Rule → List ℕ
rule_name rule.FileIndex = codes "file-index"
rule_name rule.DirectoryIndex = codes "directory-index"
rule_name rule.FallingPlace = codes "falling-place"
rule_name rule.NoEnd = codes "no-end"
rule_name rule.EmptySequence = codes "empty-sequence"
rule_name rule.Overlap = codes "overlap"
rule_name rule.DeadSequence = codes "dead-sequence"
rule_name rule.MissingText = codes "missing-text"
rule_name rule.DuplicateFile = codes "duplicate-file"
rule_name rule.UnusedFile = codes "unused-file"
rule_name rule.Md5Missing = codes "md5-missing"
rule_name rule.LongNumber = codes "long-number"
rule_name rule.Padding = codes "padding"
rule_name rule.WrappedAddress = codes "wrapped-address"
rule_name rule.LineWrapped = codes "line-wrapped"
rule_name rule.NoStatement = codes "no-statement"
rule_name rule.SplitInstruction = codes "split-instruction"
rule_name rule.UnknownOpcode = codes "unknown-opcode"
rule_name rule.NoCode = codes "no-code"

-- in the order in which the findings of one place are told
abbrev pub all_rules : List Rule
all_rules =
    rule.FileIndex ∷ rule.DirectoryIndex ∷ rule.FallingPlace ∷ rule.NoEnd ∷ rule.EmptySequence ∷ rule.Overlap
    ∷ rule.DeadSequence ∷ rule.MissingText ∷ rule.DuplicateFile ∷ rule.UnusedFile ∷ rule.Md5Missing ∷ rule.LongNumber
    ∷ rule.Padding ∷ rule.WrappedAddress ∷ rule.LineWrapped ∷ rule.NoStatement ∷ rule.SplitInstruction ∷ rule.UnknownOpcode
    ∷ rule.NoCode ∷ []

-- the place of a rule among them, from 0 on
abbrev pub rule_place : Rule → ℕ
rule_place rule.FileIndex = 0
rule_place rule.DirectoryIndex = 1
rule_place rule.FallingPlace = 2
rule_place rule.NoEnd = 3
rule_place rule.EmptySequence = 4
rule_place rule.Overlap = 5
rule_place rule.DeadSequence = 6
rule_place rule.MissingText = 7
rule_place rule.DuplicateFile = 8
rule_place rule.UnusedFile = 9
rule_place rule.Md5Missing = 10
rule_place rule.LongNumber = 11
rule_place rule.Padding = 12
rule_place rule.WrappedAddress = 13
rule_place rule.LineWrapped = 14
rule_place rule.NoStatement = 15
rule_place rule.SplitInstruction = 16
rule_place rule.UnknownOpcode = 17
rule_place rule.NoCode = 18

-- the rule of this name
abbrev pub named : (name : List ℕ) → Option Rule
named name = find (λ r. bytes_eq (rule_name r) name) all_rules
