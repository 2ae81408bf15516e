use Rattle.std.proofs.Common.{◌∙◌, ◌++◌, [], List, ap, refl, sym}
use Rattle.std.specs.Prelude.{option_to_list}
use Rattle.std.proofs.lemmas.Result.{err_from_is_err_and}
use Rattle.dl_sections.specs.Section.{Visit, of_header}
use Rattle.dl_findings.specs.declared.finding.Finding.{Finding}
use Rattle.dl_findings.specs.Chosen.{is_chosen}
use Rattle.dl_findings.specs.declared.rule.Rule.TheVariants as rule
use Rattle.dl_lint.specs.declared.question.LintQuestion.{LintQuestion}
use Rattle.dl_print.specs.ValueText.{Strings}
use Rattle.dl_table_rules.specs.Sums.{sums_found}
use Rattle.dl_table_rules.specs.TableFindings.{duplicates_found, missing_found}
use Rattle.dl_lint.specs.Findings.{findings_at}
use Rattle.dl_table_rules.specs.HeaderFindings.{contents_found, directories_found}
use Rattle.dl_lint.specs.HeaderRules.{padding_at}
use Rattle.dl_lint.proofs.TellLemmas.{lost, more_told, none_yet, told_last}
use Rattle.dl_lint.proofs.report.Report.tell_header.Goals as goal

-- what is left after the findings of each rule
abbrev after_padding : Visit → List Finding
after_padding (of_header unit lengths h) = contents_found unit h ++ []
after_padding v = []

abbrev after_sums : List Visit → Visit → List Finding
after_sums visits v = padding_at visits v ++ after_padding v

abbrev after_duplicates : List Visit → Visit → List Finding
after_duplicates visits (of_header unit lengths h) = sums_found unit h ++ after_sums visits (of_header unit lengths h)
after_duplicates visits v = []

abbrev after_missing : List Visit → Visit → List Finding
after_missing visits (of_header unit lengths h) = duplicates_found unit h ++ after_duplicates visits (of_header unit lengths h)
after_missing visits v = []

abbrev after_directories : Strings → List Visit → Visit → List Finding
after_directories s visits (of_header unit lengths h) = missing_found s unit h ++ after_missing visits (of_header unit lengths h)
after_directories s visits v = []

pub returns-in_err-tell_directories-clause-told : goal.returns-in_err-tell_directories-clause-told
returns-in_err-tell_directories-clause-told g c s visits ends ordered =
    let e = err_from_is_err_and c.from_residual.result c.from_residual.ensures.1 in
    let unit = c.args.unit in
    let h = c.args.header.now in
    let v = of_header unit c.args.lengths.now h in
    let old = g.W.Write.contents c.args.output.now in
    let f0 = none_yet old c.args.self.now (findings_at s c.args.self.now.question.now visits v) in
    rw (e.1, e.2) (lost f0 (directories_found unit h) (after_directories s visits v) refl
    (g.W.Write.contents c.tell_directories.new.output) c.tell_directories.new.self (directories_found unit h) refl _ (c.in_err-tell_directories.ensures.told))

pub returns-in_err-tell_missing-clause-told : goal.returns-in_err-tell_missing-clause-told
returns-in_err-tell_missing-clause-told g c s visits ends ordered =
    let e = err_from_is_err_and c.from_residual-in_err-tell_missing.result c.from_residual-in_err-tell_missing.ensures.1 in
    let unit = c.args.unit in
    let h = c.args.header.now in
    let v = of_header unit c.args.lengths.now h in
    let old = g.W.Write.contents c.args.output.now in
    let f0 = none_yet old c.args.self.now (findings_at s c.args.self.now.question.now visits v) in
    let f1 = more_told f0 (directories_found unit h) (after_directories s visits v) refl
    (g.W.Write.contents c.tell_directories.new.output) c.tell_directories.new.self (directories_found unit h) refl (c.in_ok-tell_directories.ensures.told) in
    rw (e.1, e.2) (lost f1 (missing_found s unit h) (after_missing visits v) refl
    (g.W.Write.contents c.tell_missing.new.output) c.tell_missing.new.self (missing_found s unit h) refl _ (c.in_err-tell_missing.ensures.told s
    (λ is. ends (sym (ap (λ (q : LintQuestion). is_chosen q.rules rule.MissingText) f1.adds.question) ∙ is))))

pub returns-in_err-tell_duplicates-clause-told : goal.returns-in_err-tell_duplicates-clause-told
returns-in_err-tell_duplicates-clause-told g c s visits ends ordered =
    let e = err_from_is_err_and c.from_residual-in_err-tell_duplicates.result c.from_residual-in_err-tell_duplicates.ensures.1 in
    let unit = c.args.unit in
    let h = c.args.header.now in
    let v = of_header unit c.args.lengths.now h in
    let old = g.W.Write.contents c.args.output.now in
    let f0 = none_yet old c.args.self.now (findings_at s c.args.self.now.question.now visits v) in
    let f1 = more_told f0 (directories_found unit h) (after_directories s visits v) refl
    (g.W.Write.contents c.tell_directories.new.output) c.tell_directories.new.self (directories_found unit h) refl (c.in_ok-tell_directories.ensures.told) in
    let f2 = more_told f1 (missing_found s unit h) (after_missing visits v) refl
    (g.W.Write.contents c.tell_missing.new.output) c.tell_missing.new.self (missing_found s unit h) refl (c.in_ok-tell_missing.ensures.told s
    (λ is. ends (sym (ap (λ (q : LintQuestion). is_chosen q.rules rule.MissingText) f1.adds.question) ∙ is))) in
    rw (e.1, e.2) (lost f2 (duplicates_found unit h) (after_duplicates visits v) refl
    (g.W.Write.contents c.tell_duplicates.new.output) c.tell_duplicates.new.self (duplicates_found unit h) refl _ (c.in_err-tell_duplicates.ensures.told
    (λ is. ordered (sym (ap (λ (q : LintQuestion). is_chosen q.rules rule.DuplicateFile) f2.adds.question) ∙ is))))

pub returns-in_err-tell_sums-clause-told : goal.returns-in_err-tell_sums-clause-told
returns-in_err-tell_sums-clause-told g c s visits ends ordered =
    let e = err_from_is_err_and c.from_residual-in_err-tell_sums.result c.from_residual-in_err-tell_sums.ensures.1 in
    let unit = c.args.unit in
    let h = c.args.header.now in
    let v = of_header unit c.args.lengths.now h in
    let old = g.W.Write.contents c.args.output.now in
    let f0 = none_yet old c.args.self.now (findings_at s c.args.self.now.question.now visits v) in
    let f1 = more_told f0 (directories_found unit h) (after_directories s visits v) refl
    (g.W.Write.contents c.tell_directories.new.output) c.tell_directories.new.self (directories_found unit h) refl (c.in_ok-tell_directories.ensures.told) in
    let f2 = more_told f1 (missing_found s unit h) (after_missing visits v) refl
    (g.W.Write.contents c.tell_missing.new.output) c.tell_missing.new.self (missing_found s unit h) refl (c.in_ok-tell_missing.ensures.told s
    (λ is. ends (sym (ap (λ (q : LintQuestion). is_chosen q.rules rule.MissingText) f1.adds.question) ∙ is))) in
    let f3 = more_told f2 (duplicates_found unit h) (after_duplicates visits v) refl
    (g.W.Write.contents c.tell_duplicates.new.output) c.tell_duplicates.new.self (duplicates_found unit h) refl (c.in_ok-tell_duplicates.ensures.told
    (λ is. ordered (sym (ap (λ (q : LintQuestion). is_chosen q.rules rule.DuplicateFile) f2.adds.question) ∙ is))) in
    rw (e.1, e.2) (lost f3 (sums_found unit h) (after_sums visits v) refl
    (g.W.Write.contents c.tell_sums.new.output) c.tell_sums.new.self (sums_found unit h) refl _ (c.in_err-tell_sums.ensures.told))

pub returns-in_err-tell_any-clause-told : goal.returns-in_err-tell_any-clause-told
returns-in_err-tell_any-clause-told g c s visits ends ordered =
    let e = err_from_is_err_and c.from_residual-in_err-tell_any.result c.from_residual-in_err-tell_any.ensures.1 in
    let unit = c.args.unit in
    let h = c.args.header.now in
    let v = of_header unit c.args.lengths.now h in
    let old = g.W.Write.contents c.args.output.now in
    let f0 = none_yet old c.args.self.now (findings_at s c.args.self.now.question.now visits v) in
    let f1 = more_told f0 (directories_found unit h) (after_directories s visits v) refl
    (g.W.Write.contents c.tell_directories.new.output) c.tell_directories.new.self (directories_found unit h) refl (c.in_ok-tell_directories.ensures.told) in
    let f2 = more_told f1 (missing_found s unit h) (after_missing visits v) refl
    (g.W.Write.contents c.tell_missing.new.output) c.tell_missing.new.self (missing_found s unit h) refl (c.in_ok-tell_missing.ensures.told s
    (λ is. ends (sym (ap (λ (q : LintQuestion). is_chosen q.rules rule.MissingText) f1.adds.question) ∙ is))) in
    let f3 = more_told f2 (duplicates_found unit h) (after_duplicates visits v) refl
    (g.W.Write.contents c.tell_duplicates.new.output) c.tell_duplicates.new.self (duplicates_found unit h) refl (c.in_ok-tell_duplicates.ensures.told
    (λ is. ordered (sym (ap (λ (q : LintQuestion). is_chosen q.rules rule.DuplicateFile) f2.adds.question) ∙ is))) in
    let f4 = more_told f3 (sums_found unit h) (after_sums visits v) refl
    (g.W.Write.contents c.tell_sums.new.output) c.tell_sums.new.self (sums_found unit h) refl (c.in_ok-tell_sums.ensures.told) in
    rw (e.1, e.2) (lost f4 (padding_at visits v) (after_padding v) refl
    (g.W.Write.contents c.tell_any.new.output) c.tell_any.new.self (option_to_list c.padding.result) (c.padding.ensures visits h) _ (c.in_err-tell_any.ensures.told))

pub returns-clause-told : goal.returns-clause-told
returns-clause-told g c s visits ends ordered =
    let unit = c.args.unit in
    let h = c.args.header.now in
    let v = of_header unit c.args.lengths.now h in
    let old = g.W.Write.contents c.args.output.now in
    let f0 = none_yet old c.args.self.now (findings_at s c.args.self.now.question.now visits v) in
    let f1 = more_told f0 (directories_found unit h) (after_directories s visits v) refl
    (g.W.Write.contents c.tell_directories.new.output) c.tell_directories.new.self (directories_found unit h) refl (c.in_ok-tell_directories.ensures.told) in
    let f2 = more_told f1 (missing_found s unit h) (after_missing visits v) refl
    (g.W.Write.contents c.tell_missing.new.output) c.tell_missing.new.self (missing_found s unit h) refl (c.in_ok-tell_missing.ensures.told s
    (λ is. ends (sym (ap (λ (q : LintQuestion). is_chosen q.rules rule.MissingText) f1.adds.question) ∙ is))) in
    let f3 = more_told f2 (duplicates_found unit h) (after_duplicates visits v) refl
    (g.W.Write.contents c.tell_duplicates.new.output) c.tell_duplicates.new.self (duplicates_found unit h) refl (c.in_ok-tell_duplicates.ensures.told
    (λ is. ordered (sym (ap (λ (q : LintQuestion). is_chosen q.rules rule.DuplicateFile) f2.adds.question) ∙ is))) in
    let f4 = more_told f3 (sums_found unit h) (after_sums visits v) refl
    (g.W.Write.contents c.tell_sums.new.output) c.tell_sums.new.self (sums_found unit h) refl (c.in_ok-tell_sums.ensures.told) in
    let f5 = more_told f4 (padding_at visits v) (after_padding v) refl
    (g.W.Write.contents c.tell_any.new.output) c.tell_any.new.self (option_to_list c.padding.result) (c.padding.ensures visits h) (c.in_ok-tell_any.ensures.told) in
    told_last f5 (contents_found unit h) [] refl (g.W.Write.contents c.tell_contents.new.output) c.tell_contents.new.self
    (contents_found unit h) refl refl c.tell_contents.result c.tell_contents.ensures.told
