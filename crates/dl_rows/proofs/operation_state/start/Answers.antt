use Rattle.std.proofs.Common.{[], ◌∷◌}
use Rattle.dl_rows.proofs.BodyLemmas.{step_from}
use Rattle.dl_rows.proofs.operation_state.start.Goals as goal

pub returns-in-Some-without_operand-clause-step : goal.returns-in-Some-without_operand-clause-step
returns-in-Some-without_operand-clause-step c =
    (c.in-Some.opcode.now ∷ [], c.in-Some.ensures.cases.0, c.in-Some-without_operand.ensures.some c.args.order)

pub returns-in-None-clause-step : goal.returns-in-None-clause-step
returns-in-None-clause-step c =
    step_from c.args.order c.args.params.now [] (c.in-Some.opcode.now ∷ []) c.in-Some.tail.now c.args.bytes.now
    c.operand.result c.in-Some.ensures.cases.0 c.operand.ensures.step
