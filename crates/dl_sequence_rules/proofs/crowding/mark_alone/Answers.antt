use Rattle.std.proofs.Common.{◌≡◌, ◌<◌, ◌≤◌, true, subst, sym, ⊎_elim, arith}
use Rattle.std.proofs.lemmas.Bool.{cases_lt}
use Rattle.std.proofs.lemmas.Bool.Decides.{nat_tests}
use Rattle.dl_look.specs.Answer.{is_at_most}
use Rattle.dl_sequence_rules.specs.Alone.{AreMarks, stretch_at}
use Rattle.dl_sequence_rules.proofs.AloneLemmas.{apart, marked_more}
use Rattle.dl_sequence_rules.proofs.PlaceLemmas.{at_most_after}
use Rattle.dl_sequence_rules.proofs.crowding.mark_alone.Goals as goal
use Rattle.dl_sequence_rules.proofs.crowding.mark_alone.Goals.{then-le+then-begin_from, else-le}

pub loop-k-preserved : goal.loop-k-preserved
loop-k-preserved c =
    let l = c.loop-k in
    let i = l.invariant in
    let stretches = c.args.stretches.now in
    record {
      reached =
          λ m lt. ⊎_elim
          (λ (less : m < l.k). at_most_after (stretch_at stretches m).last l.reached c.greater-reached.result (i.reached m less)
          c.greater-reached.ensures.first)
          (λ (from : l.k ≤ m). (let same : l.k ≡ m = omega arith in
          subst (λ n. is_at_most (stretch_at stretches n).last c.greater-reached.result ≡ true) same c.greater-reached.ensures.second))
          (cases_lt m l.k);
      marks =
          elim c.if-le.branch [
            | then-le+then-begin_from w ↦ (
                let le = c.le.ensures in
                let holds = w.if-le.true in
                let begins : is_at_most l.reached (stretch_at stretches l.k).first ≡ true = grind (arith, nat_tests) in
                subst (AreMarks stretches) (sym w.alone-is)
                (marked_more stretches l.alone i.marks l.k c.loop-k-test.true
                (apart stretches l.k l.reached i.reached begins (w.begin_from.ensures w.if-begin_from.true))))
            | else-le w ↦ subst (AreMarks stretches) (sym w.alone-is) i.marks
          ];
    }
