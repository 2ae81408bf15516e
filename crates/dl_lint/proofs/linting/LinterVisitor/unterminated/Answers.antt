use Rattle.std.proofs.Common.{◌∙◌, List, Ok, Err, refl, sym, subst}
use Rattle.std.specs.Prelude.{⊤}
use Rattle.std.proofs.lemmas.Result.{err_from_is_err_and}
use Rattle.dl_sections.specs.Section.{of_open}
use Rattle.dl_findings.specs.declared.finding.Finding.{Finding}
use Rattle.dl_lint.specs.Telling.{Tells}
use Rattle.dl_lint.proofs.FilesLemmas.{files_quiet}
use Rattle.dl_lint.proofs.KeptLemmas.{reached_quiet}
use Rattle.dl_lint.proofs.LintingLemmas.{lints, loses}
use Rattle.dl_lint.proofs.OperationLemmas.{knows_on}
use Rattle.dl_lint.proofs.SequenceLemmas.{sequences_quiet}
use Rattle.dl_lint.proofs.linting.LinterVisitor.unterminated.Goals as goal

pub returns-in_err-tell-clause-heard : goal.returns-in_err-tell-clause-heard
returns-in_err-tell-clause-heard g c first start visits linted =
    let e = err_from_is_err_and c.from_residual.result c.from_residual.ensures.1 in
    let old = g.W.Write.contents c.args.output.now in
    let new = g.W.Write.contents c.tell.new.output in
    rw (e.1, e.2) (loses linted (record c.args.self.now { report = c.tell.new.self }) new of_open c.in_err-tell.field-0.0
    (subst (λ (l : List Finding). Tells {A = ⊤} old new c.args.self.now.report c.tell.new.self l (Err c.in_err-tell.field-0.0))
    (c.no_end.ensures visits linted.reached) c.in_err-tell.ensures.told) g.M.Memory.refuses)

pub returns-clause-heard : goal.returns-clause-heard
returns-clause-heard g c first start visits linted =
    let old = g.W.Write.contents c.args.output.now in
    let new = g.W.Write.contents c.tell.new.output in
    lints linted _ new of_open
    (subst (λ (l : List Finding). Tells {A = ⊤} old new c.args.self.now.report c.tell.new.self l (Ok tt))
    (c.no_end.ensures visits linted.reached) c.in_ok-tell.ensures.told) refl refl refl refl
    (linted.reached ∙ sym (reached_quiet visits of_open refl refl refl refl refl))
    (knows_on c.args.self.now.operations visits of_open linted.knows)
    (files_quiet first.report.question.now.rules visits of_open refl (λ n. refl) (λ h e. e) c.args.self.now.files.now refl linted.files)
    (sequences_quiet first.report.question.now visits of_open refl refl refl c.args.self.now.sequences.now linted.sequences)
