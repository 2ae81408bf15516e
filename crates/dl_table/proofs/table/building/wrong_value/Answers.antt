use Rattle.std.proofs.Common.{◌≡◌, ℕ, length, Some, ap, arith, ltb-true, ltb-false, sym, ◌∙◌}
use Rattle.dl_table.proofs.BuildLemmas.{wrong_value-more, wrong_value-missing, wrong_value-many}
use Rattle.dl_table.proofs.table.building.wrong_value.Goals as goal

pub returns-in_default : goal.returns-in_default
returns-in_default c =
    let past = ltb-false _ _ (sym c.in_default.ensures.lookup.0) in
    sym (c.loop-place.invariant.same ∙ wrong_value-missing c.args.format c.args.pairs.now c.args.values.now
    c.loop-place.place c.loop-place-test.true past)

pub returns-then-not-is_of_form : goal.returns-then-not-is_of_form
returns-then-not-is_of_form c =
    let within = ltb-true _ _ (sym c.in-Some.ensures.lookup.0) in
    let step = wrong_value-more c.args.format c.args.pairs.now c.args.values.now c.loop-place.place
    c.loop-place-test.true within c.in-Some.ensures.lookup.1 c.if-not-is_of_form.ensures in
    sym (c.loop-place.invariant.same ∙ step)

pub loop-place-preserved : goal.loop-place-preserved
loop-place-preserved c =
    let within = ltb-true _ _ (sym c.in-Some.ensures.lookup.0) in
    let step = wrong_value-more c.args.format c.args.pairs.now c.args.values.now c.loop-place.place
    c.loop-place-test.true within c.in-Some.ensures.lookup.1 c.if-not-is_of_form.ensures in
    record { counted = omega arith; same = c.loop-place.invariant.same ∙ step }

pub returns-then-values-pairs : goal.returns-then-values-pairs
returns-then-values-pairs c =
    let end : c.loop-place.place ≡ length c.args.pairs.now = omega arith in
    let many = wrong_value-many c.args.format c.args.pairs.now c.args.values.now c.loop-place.place (omega arith)
    (omega arith) in
    sym (c.loop-place.invariant.same ∙ many ∙ ap (λ (n : ℕ). Some n) end)
