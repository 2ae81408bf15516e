use Rattle.std.proofs.Common.{length, refl, sym, ◌∙◌}
use Rattle.std.proofs.lemmas.Result.{err_from_is_err_and}
use Rattle.dl_info.specs.Forms.{told}
use Rattle.dl_info.specs.Entries.{without_values}
use Rattle.dl_info.proofs.EntryLemmas.{Gives, value_passed, value_stops}
use Rattle.dl_info.proofs.RemainLemmas.{at_end, at_first, never_runs_out, never_stops, one_less, remain_so}
use Rattle.dl_info.proofs.entry.declared_values_at.Goals as goal

pub loop-init : goal.loop-init
loop-init c =
    rw c.new-entry.ensures (at_first
    (Gives c.args.encoding (without_values c.args.encoding.format) c.args.bytes.now _) c.args.attributes.now c.requires refl)

pub returns-in_err-attribute : goal.returns-in_err-attribute
returns-in_err-attribute c =
    absurd (never_stops _ (length c.args.attributes.now) c.loop.counter c.loop.left.now c.loop.invariant
    c.in_err-attribute.field-0.0 c.loop-test.true c.in_err-attribute.ensures)

pub returns-then-is_end : goal.returns-then-is_end
returns-then-is_end c =
    at_end _ (length c.args.attributes.now) c.loop.counter c.loop.left.now c.loop.invariant
    c.in_ok-attribute.others.now c.in_ok-attribute.attribute c.loop-test.true c.in_ok-attribute.ensures
    (sym c.is_end.ensures ∙ c.if-is_end.true)

pub returns-in_err-value : goal.returns-in_err-value
returns-in_err-value c =
    let p = err_from_is_err_and c.from_residual-in_err-value.result c.from_residual-in_err-value.ensures.1 in
    let before =
    one_less _ (length c.args.attributes.now) c.loop.counter c.loop.left.now c.loop.invariant
    c.in_ok-attribute.others.now c.in_ok-attribute.attribute c.loop-test.true c.in_ok-attribute.ensures
    (sym c.is_end.ensures ∙ c.if-is_end.false) in
    rw (p.1, p.2) (value_stops c.args.encoding _ c.loop.rest.now _ c.in_ok-attribute.attribute before.attributes
    before.holds c.in_err-value.field-0.0 c.in_err-value.ensures)

pub loop-preserved : goal.loop-preserved
loop-preserved c =
    let before =
    one_less _ (length c.args.attributes.now) c.loop.counter c.loop.left.now c.loop.invariant
    c.in_ok-attribute.others.now c.in_ok-attribute.attribute c.loop-test.true c.in_ok-attribute.ensures
    (sym c.is_end.ensures ∙ c.if-is_end.false) in
    rw c.with_value-entry.ensures (remain_so _ _ _ c.in_ok-attribute.others.now
    (λ others gives. value_passed c.args.encoding _ c.loop.rest.now _ c.in_ok-attribute.attribute others gives
    (told c.in_ok-value.value) c.in_ok-value.after.now c.in_ok-value.ensures) before)

pub returns : goal.returns
returns c =
    absurd (never_runs_out _ (length c.args.attributes.now) c.loop.counter c.loop.left.now c.loop.invariant
    c.loop-test.false)
