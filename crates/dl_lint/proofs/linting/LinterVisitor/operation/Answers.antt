use Rattle.std.proofs.Common.{◌≡◌, ◌∙◌, refl, ap, ap₂}
use Rattle.std.proofs.lemmas.Result.{err_from_is_err_and}
use Rattle.dl_rows.specs.Items.{an_operation}
use Rattle.dl_field.specs.declared.params.Params.{Params}
use Rattle.dl_sections.specs.Section.{of_item}
use Rattle.dl_look.specs.declared.place.Place.{Place}
use Rattle.dl_operation_rules.specs.Operations.{moved_by, place_after, seen}
use Rattle.dl_lint.specs.Linting.{strings_of}
use Rattle.dl_lint.proofs.FilesLemmas.{files_quiet}
use Rattle.dl_lint.proofs.LintingLemmas.{lints, loses}
use Rattle.dl_lint.proofs.OperationLemmas.{knows_on}
use Rattle.dl_lint.proofs.SequenceLemmas.{sequences_quiet}
use Rattle.dl_lint.proofs.linting.LinterVisitor.operation.Goals as goal

pub returns-in_err-tell_operation-clause-heard : goal.returns-in_err-tell_operation-clause-heard
returns-in_err-tell_operation-clause-heard g c first start visits linted =
    let e = err_from_is_err_and c.from_residual.result c.from_residual.ensures.1 in
    let h = c.args.header.now in
    let o = c.args.operation in
    let moves : c.moved_by-moved.result ≡ moved_by h.params c.args.self.now.operations.place o =
    c.moved_by-moved.ensures ∙ ap (λ (p : Params). moved_by p c.args.self.now.operations.place o) c.params-params.ensures.value in
    rw (e.1, e.2) (loses linted (record c.args.self.now { report = c.tell_operation.new.self })
    (g.W.Write.contents c.tell_operation.new.output) (of_item (an_operation h o)) _
    (c.in_err-tell_operation.ensures.told (strings_of first) visits linted.reached linted.knows moves) g.M.Memory.refuses)

pub returns-clause-heard : goal.returns-clause-heard
returns-clause-heard g c first start visits linted =
    let h = c.args.header.now in
    let o = c.args.operation in
    let at = c.args.self.now.operations.place in
    let moves : c.moved_by-moved.result ≡ moved_by h.params at o =
    c.moved_by-moved.ensures ∙ ap (λ (p : Params). moved_by p at o) c.params-params.ensures.value in
    let place : c.place_after-place.result ≡ place_after h.params (seen visits).place o =
    c.place_after-place.ensures c.moved_by-moved.ensures
    ∙ ap₂ (λ (p : Params) (a : Place). place_after p a o) c.params-params.ensures.value linted.knows.place in
    lints linted _ (g.W.Write.contents c.tell_operation.new.output) (of_item (an_operation h o))
    (c.in_ok-tell_operation.ensures.told (strings_of first) visits linted.reached linted.knows moves) refl refl refl refl
    (c.operation-2.ensures visits h o linted.reached)
    (knows_on _ visits (of_item (an_operation h o)) (c.operation.ensures (seen visits) h linted.knows place))
    (files_quiet first.report.question.now.rules visits (of_item (an_operation h o)) refl (λ n. refl) (λ k e. e) c.args.self.now.files.now refl linted.files)
    (sequences_quiet first.report.question.now visits (of_item (an_operation h o)) refl refl refl c.args.self.now.sequences.now linted.sequences)
