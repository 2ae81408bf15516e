use Rattle.std.proofs.Common.{◌∙◌, ◌∷◌, [], ap}
use Rattle.dl_findings.specs.declared.finding.Finding.{Finding}
use Rattle.dl_operation_rules.specs.Operations.{longest_number, seen}
use Rattle.dl_lint.proofs.OperationLemmas.{is_long, not_long}
use Rattle.dl_lint.proofs.operation_rules.long_number.Goals as goal

pub returns-then-not-is_long : goal.returns-then-not-is_long
returns-then-not-is_long c visits h o is knows =
    not_long visits (longest_number (seen visits).bytes) c.longest_number-bytes.result
    (c.longest_number-bytes.ensures (seen visits) knows) c.is_long.result c.is_long.ensures c.if-not-is_long.true

pub returns : goal.returns
returns c visits h o is knows =
    ap (λ (f : Finding). f ∷ []) (c.found.ensures visits is)
    ∙ is_long visits (longest_number (seen visits).bytes) c.longest_number-bytes.result
    (c.longest_number-bytes.ensures (seen visits) knows) c.is_long.result c.is_long.ensures c.if-not-is_long.false
