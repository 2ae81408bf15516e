use Rattle.std.proofs.Common.{◌∷◌, ◌∙◌, [], refl, sym}
use Rattle.dl_sections.specs.Section.{of_version}
use Rattle.dl_lint.specs.Linting.{strings_of}
use Rattle.dl_lint.proofs.FilesLemmas.{files_quiet}
use Rattle.dl_lint.proofs.FindingLemmas.{found_none}
use Rattle.dl_lint.proofs.KeptLemmas.{reached_quiet}
use Rattle.dl_lint.proofs.LintingLemmas.{lints_nothing}
use Rattle.dl_lint.proofs.OperationLemmas.{knows_on}
use Rattle.dl_lint.proofs.SequenceLemmas.{sequences_quiet}
use Rattle.dl_lint.proofs.linting.LinterVisitor.foreign.Goals as goal

pub returns-clause-heard : goal.returns-clause-heard
returns-clause-heard g c first start visits linted =
    let v = of_version c.args._offset c.args._version in
    lints_nothing linted c.args.self.now.at c.args.self.now.operations c.args.self.now.files.now (v ∷ [])
    (found_none (strings_of first) first.report.question.now visits (v ∷ []) refl) refl
    (linted.reached ∙ sym (reached_quiet visits v refl refl refl refl refl))
    (knows_on c.args.self.now.operations visits v linted.knows)
    (files_quiet first.report.question.now.rules visits v refl (λ n. refl) (λ h e. e) c.args.self.now.files.now refl linted.files)
    (sequences_quiet first.report.question.now visits v refl refl refl c.args.self.now.sequences.now linted.sequences)
