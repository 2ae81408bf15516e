use Rattle.std.proofs.Common.{◌∙◌, refl}
use Rattle.std.proofs.lemmas.Result.{err_from_is_err_and}
use Rattle.dl_rows.specs.Items.{a_row}
use Rattle.dl_sections.specs.Section.{of_item}
use Rattle.dl_lint.specs.Linting.{strings_of}
use Rattle.dl_lint.proofs.LintingLemmas.{lints, loses, wants_row}
use Rattle.dl_lint.proofs.OperationLemmas.{knows_on}
use Rattle.dl_lint.proofs.linting.LinterVisitor.row.Goals as goal

pub returns-in_err-row-clause-heard : goal.returns-in_err-row-clause-heard
returns-in_err-row-clause-heard g c first start visits linted =
    let e = err_from_is_err_and c.from_residual.result c.from_residual.ensures.1 in
    rw (e.1, e.2) (wants_row linted g.M.Memory.refuses c.row.new.self c.args.header.now c.args.row.now _
    c.in_err-row.ensures.refused.0 c.in_err-row.ensures.kept c.in_err-row.ensures.refused.1)

pub returns-in_err-tell_row-clause-heard : goal.returns-in_err-tell_row-clause-heard
returns-in_err-tell_row-clause-heard g c first start visits linted =
    let e = err_from_is_err_and c.from_residual-in_err-tell_row.result c.from_residual-in_err-tell_row.ensures.1 in
    rw (e.1, e.2) (loses linted (record c.args.self.now {
      report = c.tell_row.new.self;
      sequences = record c.args.self.now.sequences { now = c.row.new.self };
    })
    (g.W.Write.contents c.tell_row.new.output) (of_item (a_row c.args.header.now c.args.row.now)) _
    (c.in_err-tell_row.ensures.told (strings_of first) visits linted.reached) g.M.Memory.refuses)

pub returns-clause-heard : goal.returns-clause-heard
returns-clause-heard g c first start visits linted =
    lints linted _ (g.W.Write.contents c.tell_row.new.output) (of_item (a_row c.args.header.now c.args.row.now))
    (c.in_ok-tell_row.ensures.told (strings_of first) visits linted.reached) refl refl refl refl
    (c.row-2.ensures visits c.args.header.now linted.reached)
    (knows_on c.args.self.now.operations visits (of_item (a_row c.args.header.now c.args.row.now)) linted.knows)
    (c.row-3.ensures first.report.question.now.rules visits c.args.header.now linted.files)
    (rw (← linted.question) (c.in_ok-row.ensures.knows visits c.args.header.now (rw linted.question linted.sequences) linted.reached
    (c.unit-unit.ensures ∙ linted.files.unit)))
