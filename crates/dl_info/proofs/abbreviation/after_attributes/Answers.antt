use Rattle.std.proofs.Common.{length, sym, ◌∙◌}
use Rattle.std.proofs.lemmas.Result.{err_from_is_err_and}
use Rattle.dl_info.proofs.AbbreviationLemmas.{attribute_stops, attributes_end, attributes_go_on, attributes_run_out, end_of}
use Rattle.dl_info.proofs.abbreviation.after_attributes.Goals as goal

pub returns-in_err-attribute : goal.returns-in_err-attribute
returns-in_err-attribute c =
    let b = c.args.bytes.now in
    let p = err_from_is_err_and c.from_residual.result c.from_residual.ensures.1 in
    rw (p.1, p.2) (attribute_stops (length b) c.loop.counter c.loop.rest.now c.in_err-attribute.field-0.0
    (end_of (length b) b) c.loop-test.true c.in_err-attribute.ensures c.loop.invariant)

pub returns-then-is_end : goal.returns-then-is_end
returns-then-is_end c =
    let b = c.args.bytes.now in
    attributes_end (length b) c.loop.counter c.loop.rest.now c.in_ok-attribute.after.now c.in_ok-attribute.attribute
    (end_of (length b) b) c.loop-test.true c.in_ok-attribute.ensures (sym c.is_end.ensures ∙ c.if-is_end.true)
    c.loop.invariant

pub loop-preserved : goal.loop-preserved
loop-preserved c =
    let b = c.args.bytes.now in
    attributes_go_on (length b) c.loop.counter c.loop.rest.now c.in_ok-attribute.after.now c.in_ok-attribute.attribute
    (end_of (length b) b) c.loop-test.true c.in_ok-attribute.ensures (sym c.is_end.ensures ∙ c.if-is_end.false)
    c.loop.invariant

pub returns : goal.returns
returns c =
    let b = c.args.bytes.now in
    attributes_run_out (length b) c.loop.counter c.loop.rest.now (end_of (length b) b) c.loop-test.false c.loop.invariant
