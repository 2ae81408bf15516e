use Rattle.dl_rows.proofs.PhaseLemmas.{unsigned_within, unsigned_ends, unsigned_refuses}
use Rattle.dl_rows.proofs.operation_state.unsigned.Goals as goal

pub returns-in_default-clause-step : goal.returns-in_default-clause-step
returns-in_default-clause-step c order h v s =
    unsigned_within order h c.args.opcode c.args.number _ v c.args.bytes.now s c.in_default.ensures.answer

pub returns-in-Ok-clause-step : goal.returns-in-Ok-clause-step
returns-in-Ok-clause-step c order h v s =
    unsigned_ends order h c.args.opcode c.args.number c.take_from.new.self v c.args.bytes.now c.in-Some.tail.now
    c.in-Ok.operand c.operation.result c.operation.ensures.value
    (rw c.in-Ok.is at c.in-Some.ensures.fits) s (rw c.in-Ok.is at c.in-Some.ensures.answer)

pub returns-in-Err-clause-step : goal.returns-in-Err-clause-step
returns-in-Err-clause-step c order h v s =
    unsigned_refuses order h c.args.opcode c.args.number c.take_from.new.self v c.args.bytes.now c.in-Some.tail.now
    c.in-Err.field-0 s
    (rw c.in-Err.is at c.in-Some.ensures.answer)
