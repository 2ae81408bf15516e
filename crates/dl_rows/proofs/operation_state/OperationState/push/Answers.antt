use Rattle.dl_rows.proofs.operation_state.OperationState.push.Goals as goal

pub returns-in-Unsigned-clause-step : goal.returns-in-Unsigned-clause-step
returns-in-Unsigned-clause-step c v s =
    c.unsigned.ensures.step c.args.order c.args.params.now v (rw c.in-Unsigned.is at s)

pub returns-in-Line-clause-step : goal.returns-in-Line-clause-step
returns-in-Line-clause-step c v s = c.line.ensures.step c.args.order c.args.params.now v (rw c.in-Line.is at s)

pub returns-in-FixedAdd-clause-step : goal.returns-in-FixedAdd-clause-step
returns-in-FixedAdd-clause-step c v s = c.fixed_add.ensures.step c.args.params.now v (rw c.in-FixedAdd.is at s)

pub returns-in-Skipped-clause-step : goal.returns-in-Skipped-clause-step
returns-in-Skipped-clause-step c v s = c.skipped.ensures.step c.args.order c.args.params.now v (rw c.in-Skipped.is at s)

pub returns-in-Length-clause-step : goal.returns-in-Length-clause-step
returns-in-Length-clause-step c v s = c.length.ensures.step v (rw c.in-Length.is at s)

pub returns-in-Extended-clause-step : goal.returns-in-Extended-clause-step
returns-in-Extended-clause-step c v s = c.extended.ensures.step v (rw c.in-Extended.is at s)

pub returns-in-Address-clause-step : goal.returns-in-Address-clause-step
returns-in-Address-clause-step c v s = c.address.ensures.step c.args.params.now v (rw c.in-Address.is at s)

pub returns-in-Discriminator-clause-step : goal.returns-in-Discriminator-clause-step
returns-in-Discriminator-clause-step c v s =
    c.discriminator.ensures.step c.args.order c.args.params.now v (rw c.in-Discriminator.is at s)

pub returns-in-Rest-clause-step : goal.returns-in-Rest-clause-step
returns-in-Rest-clause-step c v s = c.rest.ensures.step c.args.order c.args.params.now v (rw c.in-Rest.is at s)
