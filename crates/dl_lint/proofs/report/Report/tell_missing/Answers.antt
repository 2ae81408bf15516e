use Rattle.std.proofs.Common.{◌∙◌, [], ap₂, append-nil, refl, sym}
use Rattle.std.proofs.lemmas.Result.{err_from_is_err_and}
use Rattle.dl_findings.specs.declared.finding.TableEntry.TheVariants as entry
use Rattle.dl_head.specs.Numbers.{first_number}
use Rattle.dl_table_rules.specs.TableFindings.{missing_found, missing_in}
use Rattle.dl_lint.proofs.TellLemmas.{lost, more_told, no_missing, none_yet, told_last, told_none}
use Rattle.dl_lint.proofs.report.Report.tell_missing.Goals as goal

pub returns-then-not-contains-clause-told : goal.returns-then-not-contains-clause-told
returns-then-not-contains-clause-told g c s ends =
    told_none (g.W.Write.contents c.args.output.now) c.args.self.now (missing_found s c.args.unit c.args.header.now)
    (no_missing c.args.self.now.question.now.rules c.args.unit s (sym c.contains.ensures ∙ c.if-not-contains.true) c.args.header.now)

pub returns-in_err-tell_missing_of-clause-told : goal.returns-in_err-tell_missing_of-clause-told
returns-in_err-tell_missing_of-clause-told g c s ends =
    let e = err_from_is_err_and c.from_residual.result c.from_residual.ensures.1 in
    let unit = c.args.unit in
    let h = c.args.header.now in
    let is = ends (sym c.contains.ensures ∙ c.if-not-contains.false) in
    let f0 = none_yet (g.W.Write.contents c.args.output.now) c.args.self.now (missing_found s unit h) in
    rw (e.1, e.2) (lost f0 (missing_in s unit entry.Directory (first_number h.params) h.directories)
    (missing_in s unit entry.File (first_number h.params) h.files) refl (g.W.Write.contents c.tell_missing_of.new.output)
    c.tell_missing_of.new.self (missing_in s unit entry.Directory c.first_number-first.result c.directories.result.now)
    (ap₂ (missing_in s unit entry.Directory) c.first_number-first.ensures.value c.directories.ensures) _
    (c.in_err-tell_missing_of.ensures.told s is))

pub returns-clause-told : goal.returns-clause-told
returns-clause-told g c s ends =
    let unit = c.args.unit in
    let h = c.args.header.now in
    let is = ends (sym c.contains.ensures ∙ c.if-not-contains.false) in
    let others = missing_in s unit entry.File (first_number h.params) h.files in
    let f0 = none_yet (g.W.Write.contents c.args.output.now) c.args.self.now (missing_found s unit h) in
    let f1 = more_told f0 (missing_in s unit entry.Directory (first_number h.params) h.directories) others refl
    (g.W.Write.contents c.tell_missing_of.new.output) c.tell_missing_of.new.self
    (missing_in s unit entry.Directory c.first_number-first.result c.directories.result.now)
    (ap₂ (missing_in s unit entry.Directory) c.first_number-first.ensures.value c.directories.ensures)
    (c.in_ok-tell_missing_of.ensures.told s is) in
    told_last f1 others [] (sym (append-nil others)) (g.W.Write.contents c.tell_missing_of-2.new.output)
    c.tell_missing_of-2.new.self (missing_in s unit entry.File c.first_number-first.result c.files.result.now)
    (ap₂ (missing_in s unit entry.File) c.first_number-first.ensures.value c.files.ensures) refl c.tell_missing_of-2.result
    (c.tell_missing_of-2.ensures.told s is)
