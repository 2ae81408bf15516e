use Rattle.std.proofs.Common.{◌∙◌, ℕ, ◌+◌, ap, arith, sym}
use Rattle.dl_table_rules.specs.Keeping.{counted}
use Rattle.dl_table_rules.proofs.SumLemmas.{one_with, one_without, upto}
use Rattle.dl_table_rules.proofs.md5_sums.without_sum.Goals as goal
use Rattle.dl_table_rules.proofs.md5_sums.without_sum.Goals.{then-not-has_sum, else-not-has_sum}

pub loop-place-preserved : goal.loop-place-preserved
loop-place-preserved c =
    let h = c.args.header.now in
    let k = c.loop-place.place in
    let i = c.loop-place.invariant in
    let file = c.first_number-first.result + k in
    let at = ap (λ (n : ℕ). n + k) c.first_number-first.ensures.value in
    elim c.if-not-has_sum.branch [
      | then-not-has_sum w ↦
          record {
            few = omega (arith, i.few, w.and-without.ensures.files, ap (λ u. u.files) w.without-is);
            numbers =
                w.without-is ∙ w.and-without.ensures.numbers (upto h k) i.numbers
                ∙ ap counted (sym (one_without h k file at (sym c.has_sum.ensures ∙ w.if-not-has_sum.true)));
          }
      | else-not-has_sum w ↦
          record {
            few = omega (arith, i.few, ap (λ u. u.files) w.without-is);
            numbers =
                w.without-is ∙ i.numbers
                ∙ ap counted (sym (one_with h k file at (sym c.has_sum.ensures ∙ w.if-not-has_sum.false)));
          }
    ]
