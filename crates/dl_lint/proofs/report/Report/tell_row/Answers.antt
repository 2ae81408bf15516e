use Rattle.std.proofs.Common.{◌++◌, [], List, ap, refl}
use Rattle.std.specs.Prelude.{option_to_list}
use Rattle.std.proofs.lemmas.Result.{err_from_is_err_and}
use Rattle.dl_rows.specs.Items.{a_row}
use Rattle.dl_sections.specs.Section.{Visit, of_item}
use Rattle.dl_findings.specs.declared.finding.Finding.{Finding}
use Rattle.dl_lint.specs.Findings.{chosen, findings_at}
use Rattle.dl_lint.specs.RowRules.{empty_sequence_at, falling_place_at, file_index_at, line_wrapped_at, no_statement_at}
use Rattle.dl_lint.specs.RowRules.{split_instruction_at}
use Rattle.dl_lint.proofs.TellLemmas.{lost, more_told, none_yet, told_last, told_none}
use Rattle.dl_lint.proofs.report.Report.tell_row.Goals as goal

-- what is left after the findings of each rule
abbrev after_statements : List Visit → Visit → List Finding
after_statements before v = split_instruction_at before v ++ []

abbrev after_lines : List Visit → Visit → List Finding
after_lines before v = no_statement_at before v ++ after_statements before v

abbrev after_empty : List Visit → Visit → List Finding
after_empty before v = line_wrapped_at before v ++ after_lines before v

abbrev after_falls : List Visit → Visit → List Finding
after_falls before v = empty_sequence_at before v ++ after_empty before v

abbrev after_files : List Visit → Visit → List Finding
after_files before v = falling_place_at before v ++ after_falls before v

pub returns-in_err-tell_any-clause-told : goal.returns-in_err-tell_any-clause-told
returns-in_err-tell_any-clause-told g c s visits is =
    let e = err_from_is_err_and c.from_residual.result c.from_residual.ensures.1 in
    let h = c.args.header.now in
    let v = of_item (a_row h c.args.row.now) in
    let f0 = none_yet (g.W.Write.contents c.args.output.now) c.args.self.now (findings_at s c.args.self.now.question.now visits v) in
    rw (e.1, e.2) (lost f0 (file_index_at visits v) (after_files visits v) refl (g.W.Write.contents c.tell_any.new.output)
    c.tell_any.new.self (option_to_list c.file_index.result) (c.file_index.ensures visits is) _ c.in_err-tell_any.ensures.told)

pub returns-in_err-tell_any-2-clause-told : goal.returns-in_err-tell_any-2-clause-told
returns-in_err-tell_any-2-clause-told g c s visits is =
    let e = err_from_is_err_and c.from_residual-in_err-tell_any-2.result c.from_residual-in_err-tell_any-2.ensures.1 in
    let h = c.args.header.now in
    let v = of_item (a_row h c.args.row.now) in
    let f0 = none_yet (g.W.Write.contents c.args.output.now) c.args.self.now (findings_at s c.args.self.now.question.now visits v) in
    let f1 = more_told f0 (file_index_at visits v) (after_files visits v) refl
    (g.W.Write.contents c.tell_any.new.output) c.tell_any.new.self (option_to_list c.file_index.result)
    (c.file_index.ensures visits is) c.in_ok-tell_any.ensures.told in
    rw (e.1, e.2) (lost f1 (falling_place_at visits v) (after_falls visits v) refl (g.W.Write.contents c.tell_any-2.new.output)
    c.tell_any-2.new.self (option_to_list c.falling_place.result) (c.falling_place.ensures visits h is) _ c.in_err-tell_any-2.ensures.told)

pub returns-in_err-tell_any-3-clause-told : goal.returns-in_err-tell_any-3-clause-told
returns-in_err-tell_any-3-clause-told g c s visits is =
    let e = err_from_is_err_and c.from_residual-in_err-tell_any-3.result c.from_residual-in_err-tell_any-3.ensures.1 in
    let h = c.args.header.now in
    let v = of_item (a_row h c.args.row.now) in
    let f0 = none_yet (g.W.Write.contents c.args.output.now) c.args.self.now (findings_at s c.args.self.now.question.now visits v) in
    let f1 = more_told f0 (file_index_at visits v) (after_files visits v) refl
    (g.W.Write.contents c.tell_any.new.output) c.tell_any.new.self (option_to_list c.file_index.result)
    (c.file_index.ensures visits is) c.in_ok-tell_any.ensures.told in
    let f2 = more_told f1 (falling_place_at visits v) (after_falls visits v) refl
    (g.W.Write.contents c.tell_any-2.new.output) c.tell_any-2.new.self (option_to_list c.falling_place.result)
    (c.falling_place.ensures visits h is) c.in_ok-tell_any-2.ensures.told in
    rw (e.1, e.2) (lost f2 (empty_sequence_at visits v) (after_empty visits v) refl (g.W.Write.contents c.tell_any-3.new.output)
    c.tell_any-3.new.self (option_to_list c.empty_sequence.result) (c.empty_sequence.ensures visits h is) _ c.in_err-tell_any-3.ensures.told)

pub returns-in_err-tell_any-4-clause-told : goal.returns-in_err-tell_any-4-clause-told
returns-in_err-tell_any-4-clause-told g c s visits is =
    let e = err_from_is_err_and c.from_residual-in_err-tell_any-4.result c.from_residual-in_err-tell_any-4.ensures.1 in
    let h = c.args.header.now in
    let v = of_item (a_row h c.args.row.now) in
    let f0 = none_yet (g.W.Write.contents c.args.output.now) c.args.self.now (findings_at s c.args.self.now.question.now visits v) in
    let f1 = more_told f0 (file_index_at visits v) (after_files visits v) refl
    (g.W.Write.contents c.tell_any.new.output) c.tell_any.new.self (option_to_list c.file_index.result)
    (c.file_index.ensures visits is) c.in_ok-tell_any.ensures.told in
    let f2 = more_told f1 (falling_place_at visits v) (after_falls visits v) refl
    (g.W.Write.contents c.tell_any-2.new.output) c.tell_any-2.new.self (option_to_list c.falling_place.result)
    (c.falling_place.ensures visits h is) c.in_ok-tell_any-2.ensures.told in
    let f3 = more_told f2 (empty_sequence_at visits v) (after_empty visits v) refl
    (g.W.Write.contents c.tell_any-3.new.output) c.tell_any-3.new.self (option_to_list c.empty_sequence.result)
    (c.empty_sequence.ensures visits h is) c.in_ok-tell_any-3.ensures.told in
    rw (e.1, e.2) (lost f3 (line_wrapped_at visits v) (after_lines visits v) refl (g.W.Write.contents c.tell_any-4.new.output)
    c.tell_any-4.new.self (option_to_list c.line_wrapped.result) (c.line_wrapped.ensures visits h is) _ c.in_err-tell_any-4.ensures.told)

pub returns-in_err-tell_any-5-clause-told : goal.returns-in_err-tell_any-5-clause-told
returns-in_err-tell_any-5-clause-told g c s visits is =
    let e = err_from_is_err_and c.from_residual-in_err-tell_any-5.result c.from_residual-in_err-tell_any-5.ensures.1 in
    let h = c.args.header.now in
    let v = of_item (a_row h c.args.row.now) in
    let f0 = none_yet (g.W.Write.contents c.args.output.now) c.args.self.now (findings_at s c.args.self.now.question.now visits v) in
    let f1 = more_told f0 (file_index_at visits v) (after_files visits v) refl
    (g.W.Write.contents c.tell_any.new.output) c.tell_any.new.self (option_to_list c.file_index.result)
    (c.file_index.ensures visits is) c.in_ok-tell_any.ensures.told in
    let f2 = more_told f1 (falling_place_at visits v) (after_falls visits v) refl
    (g.W.Write.contents c.tell_any-2.new.output) c.tell_any-2.new.self (option_to_list c.falling_place.result)
    (c.falling_place.ensures visits h is) c.in_ok-tell_any-2.ensures.told in
    let f3 = more_told f2 (empty_sequence_at visits v) (after_empty visits v) refl
    (g.W.Write.contents c.tell_any-3.new.output) c.tell_any-3.new.self (option_to_list c.empty_sequence.result)
    (c.empty_sequence.ensures visits h is) c.in_ok-tell_any-3.ensures.told in
    let f4 = more_told f3 (line_wrapped_at visits v) (after_lines visits v) refl
    (g.W.Write.contents c.tell_any-4.new.output) c.tell_any-4.new.self (option_to_list c.line_wrapped.result)
    (c.line_wrapped.ensures visits h is) c.in_ok-tell_any-4.ensures.told in
    rw (e.1, e.2) (lost f4 (no_statement_at visits v) (after_statements visits v) refl (g.W.Write.contents c.tell_any-5.new.output)
    c.tell_any-5.new.self (option_to_list c.no_statement.result) (c.no_statement.ensures visits h is) _ c.in_err-tell_any-5.ensures.told)

pub returns-clause-told : goal.returns-clause-told
returns-clause-told g c s visits is =
    let h = c.args.header.now in
    let v = of_item (a_row h c.args.row.now) in
    let f0 = none_yet (g.W.Write.contents c.args.output.now) c.args.self.now (findings_at s c.args.self.now.question.now visits v) in
    let f1 = more_told f0 (file_index_at visits v) (after_files visits v) refl
    (g.W.Write.contents c.tell_any.new.output) c.tell_any.new.self (option_to_list c.file_index.result)
    (c.file_index.ensures visits is) c.in_ok-tell_any.ensures.told in
    let f2 = more_told f1 (falling_place_at visits v) (after_falls visits v) refl
    (g.W.Write.contents c.tell_any-2.new.output) c.tell_any-2.new.self (option_to_list c.falling_place.result)
    (c.falling_place.ensures visits h is) c.in_ok-tell_any-2.ensures.told in
    let f3 = more_told f2 (empty_sequence_at visits v) (after_empty visits v) refl
    (g.W.Write.contents c.tell_any-3.new.output) c.tell_any-3.new.self (option_to_list c.empty_sequence.result)
    (c.empty_sequence.ensures visits h is) c.in_ok-tell_any-3.ensures.told in
    let f4 = more_told f3 (line_wrapped_at visits v) (after_lines visits v) refl
    (g.W.Write.contents c.tell_any-4.new.output) c.tell_any-4.new.self (option_to_list c.line_wrapped.result)
    (c.line_wrapped.ensures visits h is) c.in_ok-tell_any-4.ensures.told in
    let f5 = more_told f4 (no_statement_at visits v) (after_statements visits v) refl
    (g.W.Write.contents c.tell_any-5.new.output) c.tell_any-5.new.self (option_to_list c.no_statement.result)
    (c.no_statement.ensures visits h is) c.in_ok-tell_any-5.ensures.told in
    told_last f5 (split_instruction_at visits v) [] refl (g.W.Write.contents c.tell_any-6.new.output) c.tell_any-6.new.self
    (option_to_list c.split_instruction.result) (c.split_instruction.ensures visits is) refl c.tell_any-6.result c.tell_any-6.ensures.told

pub returns-then-is_good_row-clause-told : goal.returns-then-is_good_row-clause-told
returns-then-is_good_row-clause-told g c s visits is =
    let q = c.args.self.now.question.now in
    told_none (g.W.Write.contents c.args.output.now) c.args.self.now (findings_at s q visits (of_item (a_row c.args.header.now c.args.row.now)))
    (ap (chosen q.rules) (c.is_good_row.ensures.nothing s q visits is c.if-is_good_row.true))
