use Rattle.std.proofs.Common.{◌+◌, ◌∙◌, subst, sym, ap}
use Rattle.dl_sequence_rules.proofs.WithoutLemmas.{IsWithout, without_kept, without_marked}
use Rattle.dl_sequence_rules.proofs.crowding.without.Goals as goal
use Rattle.dl_sequence_rules.proofs.crowding.without.Goals.{then-not-alone-number+in_ok-push, else-not-alone-number}

pub loop-number-preserved : goal.loop-number-preserved
loop-number-preserved g c =
    let sequences = c.args.sequences.now in
    let marks = c.args.alone.now in
    let l = c.loop-number in
    elim c.if-not-alone-number.branch [
      | then-not-alone-number+in_ok-push w ↦ subst (IsWithout sequences marks (l.number + 1))
          (sym (ap (λ v. v.items) w.kept-is ∙ w.in_ok-push.ensures.items))
          (without_kept sequences marks l.number l.kept.items l.invariant c.requires c.loop-number-test.true)
      | else-not-alone-number w ↦ subst (IsWithout sequences marks (l.number + 1)) (sym (ap (λ v. v.items) w.kept-is))
          (without_marked sequences marks l.number l.kept.items l.invariant c.requires c.loop-number-test.true w.if-not-alone-number.false)
    ]
