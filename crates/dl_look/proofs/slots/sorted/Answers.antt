use Rattle.std.proofs.Common.{arith}
use Rattle.dl_look.proofs.SlotLemmas.{in_order}
use Rattle.dl_look.specs.Slots.{no_slot}
use Rattle.std.proofs.lemmas.Bool.Decides.{nat_tests}
use Rattle.dl_look.proofs.slots.sorted.Goals as goal

pub returns-clause-slots : goal.returns-clause-slots
returns-clause-slots g c =
    let i = c.loop-number.invariant in
    let n = c.loop-number.auto.number-end in
    let t = c.loop-number-test.false in
    in_order c.args.places.now c.loop-number.slots.items c.sort_unstable.new.self.items (omega arith)
    (λ j lt. i.numbers j (omega arith)) (λ j lt. i.places j (omega arith)) c.sort_unstable.ensures.permutation
    (λ k lt. (let h = c.sort_unstable.ensures.sorted k no_slot (omega arith) lt in grind (arith, nat_tests)))
