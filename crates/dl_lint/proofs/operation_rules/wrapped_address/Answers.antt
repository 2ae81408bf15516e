use Rattle.std.proofs.Common.{◌∙◌, ◌∷◌, ℕ, [], ap}
use Rattle.dl_findings.specs.declared.finding.Finding.{Finding}
use Rattle.dl_findings.specs.declared.finding.Found.TheVariants as found
use Rattle.dl_lint.specs.OperationRules.{at_operation}
use Rattle.dl_operation_rules.specs.Operations.{seen}
use Rattle.dl_lint.proofs.OperationLemmas.{is_wrapped, not_wrapped}
use Rattle.dl_lint.proofs.operation_rules.wrapped_address.Goals as goal

pub returns-then-not-wraps : goal.returns-then-not-wraps
returns-then-not-wraps c visits is knows moves =
    not_wrapped visits c.args.header.now.params c.params-params.result.now c.args.operations.now.place (seen visits).place
    c.args.operation c.args.moved c.wraps.result c.params-params.ensures.value knows.place moves c.wraps.ensures
    c.if-not-wraps.true

pub returns : goal.returns
returns c visits is knows moves =
    ap (λ (f : Finding). f ∷ []) (c.found.ensures visits is)
    ∙ ap (λ (n : ℕ). at_operation visits (found.WrappedAddress c.args.operations.now.place.address n) ∷ []) c.from.ensures
    ∙ is_wrapped visits c.args.header.now.params c.params-params.result.now c.args.operations.now.place (seen visits).place
    c.args.operation c.args.moved c.wraps.result c.params-params.ensures.value knows.place moves c.wraps.ensures
    c.if-not-wraps.false
