use Rattle.std.proofs.Common.{refl, arith}
use Rattle.dl_table.proofs.HeldLemmas.{held_end-le}
use Rattle.dl_table.proofs.EqualLemmas.{same_values-more, same_values-at}
use Rattle.dl_table.proofs.table.equal.same_values.Goals as goal

pub is_same_value-requires-clause-within : goal.is_same_value-requires-clause-within
is_same_value-requires-clause-within c =
    omega (arith, held_end-le c.args.values.now c.loop-i.i c.loop-i-test.true c.index-values-i.is)

pub is_same_value-requires-clause-other_within : goal.is_same_value-requires-clause-other_within
is_same_value-requires-clause-other_within c =
    omega (arith, held_end-le c.args.others.now c.loop-i.i (omega arith) c.index-others-i.is)

pub returns-then-not-is_same_value : goal.returns-then-not-is_same_value
returns-then-not-is_same_value c =
    let at = same_values-at c.args.pool.now c.args.other_pool.now c.args.values.now c.args.others.now c.loop-i.i
    c.loop-i-test.true (omega arith) c.index-values-i.is c.index-others-i.is in
    (λ f. cc, λ all. c.if-not-is_same_value.ensures.1 (at all))

pub loop-i-preserved : goal.loop-i-preserved
loop-i-preserved c =
    same_values-more c.args.pool.now c.args.other_pool.now c.args.values.now c.args.others.now c.loop-i.i
    c.loop-i-test.true (omega arith) c.index-values-i.is c.index-others-i.is
    c.loop-i.invariant (c.if-not-is_same_value.ensures.0 refl)
