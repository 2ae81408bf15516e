-- What all rules find in a section, and the rules that are chosen.
use Rattle.std.specs.Prelude.{List, [], ◌∷◌, ◌++◌, filter, flat_map}
use Rattle.dl_print.specs.ValueText.{Strings}
use Rattle.dl_sections.specs.Section.{Visit}
use Rattle.dl_findings.specs.Chosen.{is_chosen}
use Rattle.dl_findings.specs.FindingText.{rule_of}
use Rattle.dl_findings.specs.declared.finding.Finding.{Finding}
use Rattle.dl_findings.specs.declared.rules.Rules.{Rules}
use Rattle.dl_sequence_rules.specs.SequenceFindings.{section_found}
use Rattle.dl_lint.specs.HeaderRules.{directory_index_at, padding_at}
use Rattle.dl_lint.specs.OperationRules.{long_number_at, unknown_opcode_at, wrapped_address_at}
use Rattle.dl_lint.specs.RowRules.{empty_sequence_at, falling_place_at, file_index_at, line_wrapped_at, no_end_at, no_statement_at}
use Rattle.dl_lint.specs.RowRules.{split_instruction_at}
use Rattle.dl_lint.specs.Sequences.{dead_sequence_at, ended_in, live_in}
use Rattle.dl_lint.specs.TableRules.{duplicate_file_at, md5_missing_at, missing_text_at, unused_file_at}
use Rattle.dl_lint.specs.declared.question.LintQuestion.{LintQuestion}

-- what each rule finds at a visit, by the visits before it. s: the string sections
abbrev pub each_rule : Strings → LintQuestion → List (List Visit → Visit → List Finding)
each_rule s q =
    file_index_at ∷ directory_index_at ∷ falling_place_at ∷ no_end_at ∷ empty_sequence_at ∷ dead_sequence_at (live_in q)
    ∷ missing_text_at s ∷ duplicate_file_at ∷ unused_file_at ∷ md5_missing_at ∷ long_number_at ∷ padding_at ∷ wrapped_address_at
    ∷ line_wrapped_at ∷ no_statement_at ∷ split_instruction_at ∷ unknown_opcode_at ∷ []

-- one rule after the other
abbrev pub findings_at : Strings → LintQuestion → (before : List Visit) → Visit → List Finding
findings_at s q before visit = flat_map (λ finds. finds before visit) (each_rule s q)

-- those of rules that are chosen
abbrev pub chosen : Rules → List Finding → List Finding
chosen rules findings = filter (λ f. is_chosen rules (rule_of f.found)) findings

-- at visits one after the other
abbrev pub findings_after : Strings → LintQuestion → (before : List Visit) → List Visit → List Finding
findings_after s q before [] = []
findings_after s q before (visit ∷ visits) =
    chosen q.rules (findings_at s q before visit) ++ findings_after s q (before ++ visit ∷ []) visits

-- in a section of which these are the visits
abbrev pub findings_in : Strings → LintQuestion → List Visit → List Finding
findings_in s q visits = findings_after s q [] visits

-- overlap and no-code are found once the section is read to its end
abbrev pub findings_of_section : LintQuestion → List Visit → List Finding
findings_of_section q visits = section_found 0 q.ranges.now (ended_in (live_in q) visits)

abbrev pub all_findings : Strings → LintQuestion → List Visit → List Finding
all_findings s q visits = findings_in s q visits ++ chosen q.rules (findings_of_section q visits)
