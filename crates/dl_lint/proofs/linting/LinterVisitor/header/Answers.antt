use Rattle.std.proofs.Common.{refl}
use Rattle.std.proofs.lemmas.Result.{err_from_is_err_and}
use Rattle.dl_sections.specs.Section.{of_header}
use Rattle.dl_lint.specs.Linting.{strings_of}
use Rattle.dl_lint.proofs.LintingLemmas.{lints, loses, wants}
use Rattle.dl_lint.proofs.OperationLemmas.{knows_on}
use Rattle.dl_lint.proofs.linting.LinterVisitor.header.Goals as goal

pub returns-in_err-order-clause-heard : goal.returns-in_err-order-clause-heard
returns-in_err-order-clause-heard g c first start visits linted =
    let e = err_from_is_err_and c.from_residual.result c.from_residual.ensures.1 in
    rw (e.1, e.2) (wants linted g.M.Memory.refuses c.args.offset c.args.lengths c.args.header.now _ c.in_err-order.ensures.refused)

pub returns-in_err-files-clause-heard : goal.returns-in_err-files-clause-heard
returns-in_err-files-clause-heard g c first start visits linted =
    let e = err_from_is_err_and c.from_residual-in_err-files.result c.from_residual-in_err-files.ensures.1 in
    rw (e.1, e.2) (wants linted g.M.Memory.refuses c.args.offset c.args.lengths c.args.header.now _ c.in_err-files.ensures.refused)

pub returns-in_err-tell_header-clause-heard : goal.returns-in_err-tell_header-clause-heard
returns-in_err-tell_header-clause-heard g c first start visits linted =
    let e = err_from_is_err_and c.from_residual-in_err-tell_header.result c.from_residual-in_err-tell_header.ensures.1 in
    rw (e.1, e.2) (loses linted (record c.args.self.now { report = c.tell_header.new.self })
    (g.W.Write.contents c.tell_header.new.output) (of_header c.args.offset c.args.lengths c.args.header.now) _
    (c.in_err-tell_header.ensures.told (strings_of first) visits (λ is. linted.ends (rw (← linted.question) is)) c.in_ok-order.ensures.order)
    g.M.Memory.refuses)

pub returns-clause-heard : goal.returns-clause-heard
returns-clause-heard g c first start visits linted =
    lints linted _ (g.W.Write.contents c.tell_header.new.output)
    (of_header c.args.offset c.args.lengths c.args.header.now)
    (c.in_ok-tell_header.ensures.told (strings_of first) visits (λ is. linted.ends (rw (← linted.question) is)) c.in_ok-order.ensures.order)
    refl refl refl refl
    (c.at_program-self.ensures visits)
    (knows_on _ visits (of_header c.args.offset c.args.lengths c.args.header.now) c.at_start-self.ensures)
    (rw (← linted.question) (c.in_ok-files.ensures.knows visits c.args.lengths))
    (c.begin_unit.ensures first.report.question.now visits c.args.offset c.args.lengths c.args.header.now linted.sequences)
