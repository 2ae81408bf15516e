use Rattle.std.proofs.Common.{◌++◌, take, slice_index_or}
use Rattle.dl_num.specs.declared.fixed.Order.TheVariants.{Little}
use Rattle.dl_num.proofs.ReadBack.{split_at}
use Rattle.dl_rows.specs.declared.operation_state.OperationState.TheVariants as phase
use Rattle.dl_rows.specs.Phases.{PhaseStands}
use Rattle.dl_rows.proofs.BodyLemmas.{next_front, all_taken, ends_after, discriminator_more, discriminator_pends}
use Rattle.dl_rows.proofs.BodyLemmas.{discriminator_ends, discriminator_beyond, discriminator_short, discriminator_long}
use Rattle.dl_rows.proofs.operation_state.discriminator.Goals as goal

pub loop-i-preserved : goal.loop-i-preserved
loop-i-preserved c h v s =
    let xs = c.args.bytes.now in
    let i = c.loop-i.i in
    rw (next_front v xs i c.loop-i-test.true)
    (discriminator_more Little h c.loop-i.left (slice_index_or xs i 0) c.loop-i.number c.push.new.self (v ++ take i xs)
    (c.loop-i.invariant h v s) c.if-left-le1.false c.in_default.ensures.answer)

pub returns-clause-step : goal.returns-clause-step
returns-clause-step c order h v s =
    let xs = c.args.bytes.now in
    let now : PhaseStands h (phase.Discriminator c.loop-i.left c.loop-i.number) (v ++ xs) =
    rw (all_taken xs c.loop-i.i c.loop-i-test.false) at (c.loop-i.invariant h v s) in
    (now, discriminator_pends order h c.loop-i.left c.loop-i.number (v ++ xs) now)

pub returns-then-left-le1-clause-step : goal.returns-then-left-le1-clause-step
returns-then-left-le1-clause-step c order h v s =
    let xs = c.args.bytes.now in
    let i = c.loop-i.i in
    ends_after order h v (take i xs) xs _ (slice_index_or xs i 0) _ (split_at xs i c.loop-i-test.true)
    (discriminator_long order h c.loop-i.left (slice_index_or xs i 0) c.loop-i.number c.push.new.self (v ++ take i xs)
    (c.loop-i.invariant h v s) c.if-left-le1.true c.in_default.ensures.answer)

pub returns-in-Ok-clause-step : goal.returns-in-Ok-clause-step
returns-in-Ok-clause-step c order h v s =
    let xs = c.args.bytes.now in
    let i = c.loop-i.i in
    let answer = rw c.in-Ok.is at c.in-Some.ensures.answer in
    ends_after order h v (take i xs) xs _ (slice_index_or xs i 0) _ (split_at xs i c.loop-i-test.true)
    (discriminator_ends order h (slice_index_or xs i 0) c.loop-i.number (v ++ take i xs) c.in-Ok.value
    (rw c.if-left-eq1.true at (c.loop-i.invariant h v s)) (rw c.in-Ok.is at c.in-Some.ensures.fits)
    (λ w t. (answer w t).0))

pub returns-in-Ok-2-clause-step : goal.returns-in-Ok-2-clause-step
returns-in-Ok-2-clause-step c order h v s =
    let xs = c.args.bytes.now in
    let i = c.loop-i.i in
    let answer = rw c.in-Ok-2.is at c.in-Some.ensures.answer in
    ends_after order h v (take i xs) xs _ (slice_index_or xs i 0) _ (split_at xs i c.loop-i-test.true)
    (discriminator_short order h c.loop-i.left (slice_index_or xs i 0) c.loop-i.number
    (v ++ take i xs) c.in-Ok-2.field-0 (c.loop-i.invariant h v s) c.if-left-eq1.false
    (rw c.in-Ok-2.is at c.in-Some.ensures.fits) (λ w t. (answer w t).0))

pub returns-in-Err-clause-step : goal.returns-in-Err-clause-step
returns-in-Err-clause-step c order h v s =
    let xs = c.args.bytes.now in
    let i = c.loop-i.i in
    let answer = rw c.in-Err.is at c.in-Some.ensures.answer in
    ends_after order h v (take i xs) xs _ (slice_index_or xs i 0) _ (split_at xs i c.loop-i-test.true)
    (discriminator_beyond order h c.loop-i.left (slice_index_or xs i 0) c.loop-i.number
    (v ++ take i xs) c.in-Err.field-0 (c.loop-i.invariant h v s) (λ w t. (answer w t).0))
