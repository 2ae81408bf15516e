use Rattle.dl_operation_rules.proofs.OperationLemmas.{at_first}
use Rattle.dl_operation_rules.proofs.operations.Operations.at_start.Goals as goal

pub returns : goal.returns
returns c = at_first c.none.result c.none-2.result c.none.ensures c.none-2.ensures
