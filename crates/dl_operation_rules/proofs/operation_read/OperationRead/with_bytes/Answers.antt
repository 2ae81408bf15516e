use Rattle.std.proofs.Common.{◌∙◌, sym}
use Rattle.dl_operation_rules.proofs.OperationLemmas.{settled_at}
use Rattle.dl_operation_rules.proofs.operation_read.OperationRead.with_bytes.Goals as goal

pub returns-then-is_settled : goal.returns-then-is_settled
returns-then-is_settled c =
    settled_at c.args.self c.loop-byte.read c.loop-byte.byte-index c.args.bytes.now c.loop-byte.invariant
    (sym c.is_settled.ensures ∙ c.if-is_settled.true)
