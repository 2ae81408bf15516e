use Rattle.std.proofs.Common.{◌∙◌, ap}
use Rattle.dl_operation_rules.specs.declared.operation_read.OperationRead.{OperationRead}
use Rattle.dl_operation_rules.proofs.OperationLemmas.{longest_is}
use Rattle.dl_operation_rules.proofs.operations.Operations.longest_number.Goals as goal

pub returns : goal.returns
returns c s knows =
    c.longest.ensures ∙ ap (λ (r : OperationRead). r.longest) knows.read ∙ longest_is s.bytes
