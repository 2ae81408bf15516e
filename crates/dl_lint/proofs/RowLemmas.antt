-- At most rows no rule finds anything.
use Rattle.std.proofs.Common.{◌≡◌, List, [], ◌++◌, Bool, true, false, refl, length}
use Rattle.std.specs.Prelude.{not}
use Rattle.dl_field.specs.HeaderData.{HeaderData}
use Rattle.dl_head.specs.Numbers.{first_number}
use Rattle.dl_print.specs.ValueText.{Strings}
use Rattle.dl_rows.specs.Items.{a_row}
use Rattle.dl_rows.specs.declared.row.Row.{Row}
use Rattle.dl_look.specs.Answer.{last_place}
use Rattle.dl_sections.specs.Section.{Visit, of_item}
use Rattle.dl_findings.specs.declared.finding.Finding.{Finding}
use Rattle.dl_findings.specs.declared.finding.Found.TheVariants as found
use Rattle.dl_lint.specs.Before.{sequence_told}
use Rattle.dl_lint.specs.Findings.{findings_at}
use Rattle.dl_lint.specs.RowRules.{ends_nothing, ends_without_statement, falls_below, first_address, found_if, is_split, is_wrapped, names_no_file}
use Rattle.dl_lint.specs.declared.question.LintQuestion.{LintQuestion}

pub isnt : (b : Bool) → not b ≡ true → b ≡ false
isnt true e = absurd cc
isnt false e = refl

module _ (visits : List Visit) (h : HeaderData) (r : Row) where
  -- one rule after the other
  abbrev each : (file falls empty line statement split : Bool) → List Finding
  each file falls empty line statement split =
      found_if file visits r (found.FileIndex r.file (length h.files.entries) (first_number h.params))
      ++ (found_if falls visits r (found.FallingPlace (last_place (sequence_told visits)))
      ++ (found_if empty visits r found.EmptySequence
      ++ (found_if line visits r (found.LineWrapped r.line)
      ++ (found_if statement visits r found.NoStatement
      ++ (found_if split visits r
      (found.SplitInstruction (first_address visits r) h.params.minimum_instruction_length) ++ [])))))

  none : (a b c d e f : Bool) → a ≡ false → b ≡ false → c ≡ false → d ≡ false → e ≡ false → f ≡ false → each a b c d e f ≡ []
  none a b c d e f is_a is_b is_c is_d is_e is_f = rw (is_a, is_b, is_c, is_d, is_e, is_f) refl

  pub good_row : names_no_file h r ≡ false → falls_below (sequence_told visits) r ≡ false → is_wrapped r.line ≡ false
      → ends_nothing visits r ≡ false → ends_without_statement visits r ≡ false
      → is_split h.params.minimum_instruction_length (first_address visits r) r.address ≡ false
      → (s : Strings) (q : LintQuestion) → findings_at s q visits (of_item (a_row h r)) ≡ []
  good_row file falls line empty statement split s q =
      none (names_no_file h r) (falls_below (sequence_told visits) r) (ends_nothing visits r) (is_wrapped r.line)
      (ends_without_statement visits r)
      (is_split h.params.minimum_instruction_length (first_address visits r) r.address)
      file falls empty line statement split
