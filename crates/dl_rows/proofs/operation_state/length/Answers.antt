use Rattle.dl_rows.proofs.BodyLemmas.{length_within, length_beyond, length_read}
use Rattle.dl_rows.proofs.operation_state.length.Goals as goal

pub returns-in_default-clause-step : goal.returns-in_default-clause-step
returns-in_default-clause-step c v s =
    length_within c.args.order c.args.params.now c.args.number _ v c.args.bytes.now s c.in_default.ensures.answer

pub returns-in-Ok-clause-step : goal.returns-in-Ok-clause-step
returns-in-Ok-clause-step c v s =
    length_read c.args.order c.args.params.now c.args.number c.take_from.new.self v c.args.bytes.now
    c.in-Some.tail.now c.in-Ok.len c.body.result s
    (rw c.in-Ok.is at c.in-Some.ensures.answer) c.body.ensures.step

pub returns-in-Err-clause-step : goal.returns-in-Err-clause-step
returns-in-Err-clause-step c v s =
    length_beyond c.args.order c.args.params.now c.args.number c.take_from.new.self v c.args.bytes.now
    c.in-Some.tail.now c.in-Err.field-0 s
    (rw c.in-Err.is at c.in-Some.ensures.answer)
