use Rattle.std.proofs.Common.{◌≡◌, ◌∙◌, ℕ, ◌+◌, ◌-◌, ◌<◌, true≢false, ap, ap₂, arith, get_or, inl, inr, length, subst, sym}
use Rattle.std.proofs.lemmas.Bool.{cases_Bool, ltb-false, ltb-true}
use Rattle.std.specs.Prelude.{nat_lt}
use Rattle.std.specs.Ordering.{is_lt}
use Rattle.dl_table_rules.specs.Ordering.{at_cmp}
use Rattle.dl_table_rules.specs.declared.entry_order.EntryAt.{EntryAt}
use Rattle.dl_table_rules.proofs.TwinLemmas.{first_marked, is_marked, more, read_at, second_marked, stays}
use Rattle.dl_table_rules.proofs.entry_order.mark_twins.Goals as goal
use Rattle.dl_table_rules.proofs.entry_order.mark_twins.Goals.{After-lt}

-- the two entries of a turn, by their places in order
before_is : (c : After-lt) (j : ℕ) (d : EntryAt) → j + 1 ≡ c.loop-k.k → get_or c.args.ordered.now j d ≡ c.index-ordered-k.result
before_is c j d at =
    read_at c.args.ordered.now j (c.loop-k.k - 1) d c.index-ordered-k.result (omega (arith, at))
    (omega (arith, c.loop-k-test.true)) c.index-ordered-k.is

entry_is : (c : After-lt) (j : ℕ) (d : EntryAt) → j + 1 ≡ c.loop-k.k
    → get_or c.args.ordered.now (j + 1) d ≡ c.index-ordered-k-in-loop-k.result
entry_is c j d at =
    read_at c.args.ordered.now (j + 1) c.loop-k.k d c.index-ordered-k-in-loop-k.result at c.loop-k-test.true
    c.index-ordered-k-in-loop-k.is

pub loop-k-preserved-then-lt : goal.loop-k-preserved-then-lt
loop-k-preserved-then-lt c j d lt same = elim (cases_Bool (nat_lt (j + 1) c.loop-k.k)) [
  | inl less ↦ c.loop-k.invariant j d (ltb-true (j + 1) c.loop-k.k less) same
  | inr here ↦
      let there = (goal.at.loop-k-preserved-then-lt c).After-lt in
      let at : j + 1 ≡ c.loop-k.k = omega (arith, lt, ltb-false (j + 1) c.loop-k.k here) in
      absurd (true≢false (
      sym c.if-lt.true ∙ c.lt.ensures
      ∙ sym (ap₂ (λ a b. is_lt (at_cmp a b)) (before_is there j d at) (entry_is there j d at))
      ∙ same
      ))
]

pub loop-k-preserved : goal.loop-k-preserved
loop-k-preserved c j d lt same =
    let es = c.args.ordered.now in
    let p = c.index-ordered-k.result.place in
    let q = c.index-ordered-k-in-loop-k.result.place in
    let marks = c.loop-k.twins in
    elim (cases_Bool (nat_lt (j + 1) c.loop-k.k)) [
      | inl less ↦
          let both = c.loop-k.invariant j d (ltb-true (j + 1) c.loop-k.k less) same in
          (stays marks p q (get_or es j d).place both.0, stays marks p q (get_or es (j + 1) d).place both.1)
      | inr here ↦
          let there = (goal.at.loop-k-preserved c).After-lt in
          let at : j + 1 ≡ c.loop-k.k = omega (arith, lt, ltb-false (j + 1) c.loop-k.k here) in
          let before = before_is there j d at in
          let entry = entry_is there j d at in
          let long = c.loop-k.auto.twins in
          let below_first : p < length marks =
          omega (arith, c.requires j d (omega (arith, at, c.loop-k-test.true)), ap (λ e. e.place) before, long) in
          let below_second : q < length marks =
          omega (arith, c.requires (j + 1) d (omega (arith, at, c.loop-k-test.true)), ap (λ e. e.place) entry, long) in (
            subst (λ e. is_marked (more marks p q) e.place) (sym before) (first_marked marks p q below_first),
            subst (λ e. is_marked (more marks p q) e.place) (sym entry) (second_marked marks p q below_second),
          )
    ]
