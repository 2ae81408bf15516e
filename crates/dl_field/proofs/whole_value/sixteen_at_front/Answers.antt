use Rattle.std.proofs.Common.{arith}
use Rattle.dl_field.proofs.WholeValues.{sixteen_in_front}
use Rattle.dl_field.proofs.whole_value.sixteen_at_front.Goals as goal

pub returns : goal.returns
returns c = λ order.
    let found = c.in_ok-sixteen.ensures.cases in
    sixteen_in_front order c.args.sixteen c.args.bytes.now c.in_ok-sixteen.sixteen.now c.in_ok-sixteen.tail.now
    (c.is_new.ensures.0 c.if-not-is_new.false) found.0 found.1 (omega (arith, found.2))
