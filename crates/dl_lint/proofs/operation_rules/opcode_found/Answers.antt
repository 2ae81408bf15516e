use Rattle.std.proofs.Common.{◌∙◌, ◌∷◌, [], Bool, ap, sym}
use Rattle.std.specs.Prelude.{if◌then◌else◌}
use Rattle.dl_field.specs.declared.params.Params.{Params}
use Rattle.dl_findings.specs.declared.finding.Finding.{Finding}
use Rattle.dl_findings.specs.declared.finding.Found.TheVariants as found
use Rattle.dl_operation_rules.specs.Judging.{is_unknown}
use Rattle.dl_lint.specs.OperationRules.{at_operation}
use Rattle.dl_operation_rules.specs.Operations.{seen}
use Rattle.dl_lint.proofs.operation_rules.opcode_found.Goals as goal

pub returns-then-not-is_unknown : goal.returns-then-not-is_unknown
returns-then-not-is_unknown c visits is knows =
    ap (λ (b : Bool). if b then at_operation visits (found.UnknownOpcode c.args.opcode) ∷ [] else [])
    (sym c.if-not-is_unknown.true ∙ c.is_unknown.ensures (seen visits) knows
    ∙ ap (λ (p : Params). is_unknown p (seen visits).opcodes c.args.opcode) c.params.ensures.value)

pub returns : goal.returns
returns c visits is knows =
    ap (λ (f : Finding). f ∷ []) (c.found.ensures visits is)
    ∙ ap (λ (b : Bool). if b then at_operation visits (found.UnknownOpcode c.args.opcode) ∷ [] else [])
    (sym c.if-not-is_unknown.false ∙ c.is_unknown.ensures (seen visits) knows
    ∙ ap (λ (p : Params). is_unknown p (seen visits).opcodes c.args.opcode) c.params.ensures.value)
