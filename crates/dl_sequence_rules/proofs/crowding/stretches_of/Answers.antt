use Rattle.std.proofs.Common.{rules, ◌≡◌, arith}
use Rattle.std.proofs.lemmas.Bool.Decides.{nat_tests}
use Rattle.std.proofs.lemmas.Fn.{always_returns_same}
use Rattle.dl_sequence_rules.specs.Alone.{no_stretch}
use Rattle.dl_sequence_rules.proofs.AloneLemmas.{are_stretches}
use Rattle.dl_sequence_rules.proofs.crowding.stretches_of.Goals as goal

pub returns-clause-stretches : goal.returns-clause-stretches
returns-clause-stretches g c =
    let i = c.loop-number.invariant in
    let n = c.loop-number.auto.number-end in
    let t = c.loop-number-test.false in
    let keys = always_returns_same _ (λ a r. r ≡ a.0.now) _ (λ a r q k. search rules) in
    are_stretches c.args.sequences.now c.loop-number.stretches.items c.sort_by_key.new.list.items (omega arith)
    (λ j lt. i.each j (omega arith)) _ (λ t. grind (arith, nat_tests))
    (c.in_ok-sort_by_key.ensures.stable (λ e. e) keys)
    (λ k lt. (let h = c.in_ok-sort_by_key.ensures.sorted (λ e. e) keys k no_stretch (omega arith) lt in grind (arith, nat_tests)))
