use Rattle.dl_rows.proofs.PhaseLemmas.{address_within, address_ends}
use Rattle.dl_rows.proofs.operation_state.address.Goals as goal

pub returns-in-Ok-clause-step : goal.returns-in-Ok-clause-step
returns-in-Ok-clause-step c h v s =
    let whole = c.in-Ok.ensures.whole in
    address_ends c.args.order h c.args.number v c.args.bytes.now _ whole.0 _ s whole.1 whole.2 whole.3

pub returns-in-Err-clause-step : goal.returns-in-Err-clause-step
returns-in-Err-clause-step c h v s =
    address_within c.args.order h c.args.number c.in-Err.number v c.args.bytes.now s c.in-Err.ensures.size
    c.in-Err.ensures.taken c.in-Err.ensures.lacks
