use Rattle.std.proofs.Common.{◌∙◌, sym, ap}
use Rattle.dl_rows.specs.declared.operation.Operation.{Operation}
use Rattle.dl_operation_rules.specs.Keeping.{known_opcode}
use Rattle.dl_operation_rules.specs.Operations.{passed_over}
use Rattle.dl_operation_rules.specs.declared.operation_read.OperationRead.{OperationRead}
use Rattle.dl_operation_rules.proofs.OperationLemmas.{known_is}
use Rattle.dl_operation_rules.proofs.operations.Operations.passed_over.Goals as goal

pub returns-in-Skipped : goal.returns-in-Skipped
returns-in-Skipped c s knows =
    c.opcode.ensures ∙ ap (λ (r : OperationRead). known_opcode r.opcode) knows.read
    ∙ known_is s.bytes
    ∙ ap (λ (o : Operation). passed_over o s.bytes) (sym c.in-Skipped.is)
