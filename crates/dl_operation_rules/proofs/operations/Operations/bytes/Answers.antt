use Rattle.dl_operation_rules.proofs.OperationLemmas.{reads_more}
use Rattle.dl_operation_rules.proofs.operations.Operations.bytes.Goals as goal

pub returns : goal.returns
returns c s knows = reads_more c.args.self.now s c.args.bytes.now c.with_bytes-self.result c.with_bytes-self.ensures knows
