use Rattle.std.proofs.Common.{w64}
use Rattle.std.proofs.lemmas.Int.{to_z-of_z}
use Rattle.dl_rows.proofs.PhaseLemmas.{signed_fits, line_within, line_ends, line_refuses}
use Rattle.dl_rows.proofs.operation_state.line.Goals as goal

pub returns-in_default-clause-step : goal.returns-in_default-clause-step
returns-in_default-clause-step c order h v s =
    line_within order h c.args.number _ v c.args.bytes.now s c.in_default.ensures.answer

pub returns-in-Ok-clause-step : goal.returns-in-Ok-clause-step
returns-in-Ok-clause-step c order h v s =
    let fits = rw c.in-Ok.is at c.in-Some.ensures.fits in
    rw (to_z-of_z w64 c.in-Ok.lines (signed_fits c.in-Ok.lines fits))
    (line_ends order h c.args.number c.take_from.new.self v c.args.bytes.now c.in-Some.tail.now c.in-Ok.lines fits s
    (rw c.in-Ok.is at c.in-Some.ensures.answer))

pub returns-in-Err-clause-step : goal.returns-in-Err-clause-step
returns-in-Err-clause-step c order h v s =
    line_refuses order h c.args.number c.take_from.new.self v c.args.bytes.now c.in-Some.tail.now c.in-Err.field-0 s
    (rw c.in-Err.is at c.in-Some.ensures.answer)
