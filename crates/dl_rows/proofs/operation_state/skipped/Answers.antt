use Rattle.std.proofs.Common.{◌++◌, ◌-◌, suc, ◌≡◌, take, slice_index_or, arith, refl}
use Rattle.dl_num.proofs.ReadBack.{split_at}
use Rattle.dl_rows.specs.Phases.{LebsLeft}
use Rattle.dl_rows.proofs.OperandLemmas.{lebs_more, lebs_next}
use Rattle.dl_rows.proofs.BodyLemmas.{not_lt, next_front, all_taken, skipped_within, skipped_ends}
use Rattle.dl_rows.proofs.operation_state.skipped.Goals as goal

pub loop-i-preserved-then-not-push : goal.loop-i-preserved-then-not-push
loop-i-preserved-then-not-push c count w l =
    let xs = c.args.bytes.now in
    let i = c.loop-i.i in
    rw (next_front w xs i c.loop-i-test.true)
    (lebs_more count (w ++ take i xs) c.loop-i.left (slice_index_or xs i 0) (c.loop-i.invariant count w l)
    (let e = c.if-not-push.ensures in not_lt e.1))

pub loop-i-preserved : goal.loop-i-preserved
loop-i-preserved c count w l =
    let xs = c.args.bytes.now in
    let i = c.loop-i.i in
    let is : c.loop-i.left ≡ suc (c.loop-i.left - 1) = omega (arith, c.if-left-le1.false) in
    let before : LebsLeft count (w ++ take i xs) (suc (c.loop-i.left - 1)) = rw (← is) (c.loop-i.invariant count w l) in
    rw (next_front w xs i c.loop-i-test.true)
    (lebs_next count (w ++ take i xs) (c.loop-i.left - 1) (slice_index_or xs i 0) before
    (c.if-not-push.ensures.0 refl) (omega (arith, c.if-left-le1.false)))

pub returns-then-left-le1-clause-step : goal.returns-then-left-le1-clause-step
returns-then-left-le1-clause-step c order h v s =
    let xs = c.args.bytes.now in
    let i = c.loop-i.i in
    skipped_ends order h c.args.left c.loop-i.left (slice_index_or xs i 0) v (take i xs) xs _ s c.loop-i.invariant
    c.if-left-le1.true (c.if-not-push.ensures.0 refl)
    (split_at xs i c.loop-i-test.true)

pub returns-clause-step : goal.returns-clause-step
returns-clause-step c order h v s =
    let xs = c.args.bytes.now in
    skipped_within order h c.args.left c.loop-i.left v xs s
    (λ count w l. rw (all_taken xs c.loop-i.i (omega (arith, c.loop-i-test.false))) at (c.loop-i.invariant count w l))
