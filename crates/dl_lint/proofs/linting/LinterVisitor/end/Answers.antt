use Rattle.std.proofs.Common.{◌∙◌, refl, sym}
use Rattle.std.proofs.lemmas.Result.{err_from_is_err_and}
use Rattle.dl_sections.specs.Section.{of_end}
use Rattle.dl_lint.specs.Linting.{strings_of}
use Rattle.dl_lint.proofs.FilesLemmas.{files_quiet}
use Rattle.dl_lint.proofs.KeptLemmas.{reached_quiet}
use Rattle.dl_lint.proofs.LintingLemmas.{lints, loses}
use Rattle.dl_lint.proofs.OperationLemmas.{knows_on}
use Rattle.dl_lint.proofs.SequenceLemmas.{sequences_quiet}
use Rattle.dl_lint.proofs.linting.LinterVisitor.end.Goals as goal

pub returns-in_err-tell_end-clause-heard : goal.returns-in_err-tell_end-clause-heard
returns-in_err-tell_end-clause-heard g c first start visits linted told =
    let e = err_from_is_err_and c.from_residual.result c.from_residual.ensures.1 in
    rw (e.1, e.2) (loses linted (record c.args.self.now { report = c.tell_end.new.self })
    (g.W.Write.contents c.tell_end.new.output) (of_end c.args.header) _
    (c.in_err-tell_end.ensures.told (strings_of first) visits c.args.header (rw linted.question linted.files)
    (rw linted.question linted.sequences) told c.is_some.ensures)
    g.M.Memory.refuses)

pub returns-clause-heard : goal.returns-clause-heard
returns-clause-heard g c first start visits linted told =
    let v = of_end c.args.header in
    lints linted _ (g.W.Write.contents c.tell_end.new.output) v
    (c.in_ok-tell_end.ensures.told (strings_of first) visits c.args.header (rw linted.question linted.files)
    (rw linted.question linted.sequences) told c.is_some.ensures) refl refl refl refl
    (linted.reached ∙ sym (reached_quiet visits v refl refl refl refl refl))
    (knows_on c.args.self.now.operations visits v linted.knows)
    (files_quiet first.report.question.now.rules visits v refl (λ n. refl) (λ h e. cc) c.args.self.now.files.now refl linted.files)
    (sequences_quiet first.report.question.now visits v refl refl refl c.args.self.now.sequences.now linted.sequences)
