use Rattle.std.proofs.Common.{◌<◌, arith, ap, ◌∙◌}
use Rattle.dl_look.specs.Spans.{spans}
use Rattle.dl_look.proofs.CutAnswers.{none_below, none_there, span_within, found}
use Rattle.dl_look.proofs.index.Index.find.Goals as goal

pub returns-then-after-eq0 : goal.returns-then-after-eq0
returns-then-after-eq0 c =
    let kept = c.self.inside in
    let at = c.cuts_upto-after.ensures in
    none_below c.args.self.now kept.spans.items kept.cuts.items c.as_slice.result.now c.args.place
    c.cuts_upto-after.result (c.self.invariant.0
    ∙ ap spans c.self.view_is) c.self.invariant.1 c.as_slice.ensures.value at.within at.upto at.above
    c.if-after-eq0.true

pub returns-in_err-sequence : goal.returns-in_err-sequence
returns-in_err-sequence c =
    let kept = c.self.inside in
    let at = c.cuts_upto-after.ensures in
    let some : 0 < c.cuts_upto-after.result = omega (arith, c.if-after-eq0.false) in
    c.from_residual.ensures
    ∙ none_there c.args.self.now kept.spans.items kept.cuts.items c.as_slice.result.now c.args.place
    c.cuts_upto-after.result (c.self.invariant.0
    ∙ ap spans c.self.view_is) c.self.invariant.1 c.as_slice.ensures.value at.within at.upto at.above some
    c.index.result.now c.index.ensures (c.in_err-sequence.was)

pub index-span-requires : goal.index-span-requires
index-span-requires c =
    let kept = c.self.inside in
    let at = c.cuts_upto-after.ensures in
    let some : 0 < c.cuts_upto-after.result = omega (arith, c.if-after-eq0.false) in
    omega (
      arith,
      kept.spans.ok.0,
      span_within c.args.self.now kept.spans.items kept.cuts.items c.as_slice.result.now c.args.place
          c.cuts_upto-after.result (c.self.invariant.0
          ∙ ap spans c.self.view_is) c.self.invariant.1 c.as_slice.ensures.value at.within at.upto at.above some
          c.index.result.now c.index.ensures c.in_ok-sequence.sequence c.in_ok-sequence.was,
    )

pub search_between-requires-clause-within : goal.search_between-requires-clause-within
search_between-requires-clause-within c =
    let kept = c.self.inside in
    let at = c.cuts_upto-after.ensures in
    let some : 0 < c.cuts_upto-after.result = omega (arith, c.if-after-eq0.false) in
    let h = found c.args.self.now kept.spans.items kept.cuts.items c.as_slice.result.now c.args.place
    c.cuts_upto-after.result (c.self.invariant.0
    ∙ ap spans c.self.view_is) c.self.invariant.1 c.as_slice.ensures.value at.within at.upto at.above some
    c.index.result.now c.index.ensures c.in_ok-sequence.sequence c.in_ok-sequence.was c.index-span.result.now
    c.index-span.ensures c.probe.result.rows.now c.probe.ensures.rows in
    h.within

pub search_between-requires-clause-rising : goal.search_between-requires-clause-rising
search_between-requires-clause-rising c =
    let kept = c.self.inside in
    let at = c.cuts_upto-after.ensures in
    let some : 0 < c.cuts_upto-after.result = omega (arith, c.if-after-eq0.false) in
    let h = found c.args.self.now kept.spans.items kept.cuts.items c.as_slice.result.now c.args.place
    c.cuts_upto-after.result (c.self.invariant.0
    ∙ ap spans c.self.view_is) c.self.invariant.1 c.as_slice.ensures.value at.within at.upto at.above some
    c.index.result.now c.index.ensures c.in_ok-sequence.sequence c.in_ok-sequence.was c.index-span.result.now
    c.index-span.ensures c.probe.result.rows.now c.probe.ensures.rows in
    h.rising

pub search_between-requires-clause-low : goal.search_between-requires-clause-low
search_between-requires-clause-low c =
    let kept = c.self.inside in
    let at = c.cuts_upto-after.ensures in
    let some : 0 < c.cuts_upto-after.result = omega (arith, c.if-after-eq0.false) in
    let h = found c.args.self.now kept.spans.items kept.cuts.items c.as_slice.result.now c.args.place
    c.cuts_upto-after.result (c.self.invariant.0
    ∙ ap spans c.self.view_is) c.self.invariant.1 c.as_slice.ensures.value at.within at.upto at.above some
    c.index.result.now c.index.ensures c.in_ok-sequence.sequence c.in_ok-sequence.was c.index-span.result.now
    c.index-span.ensures c.probe.result.rows.now c.probe.ensures.rows in
    h.low

pub search_between-requires-clause-high : goal.search_between-requires-clause-high
search_between-requires-clause-high c =
    let kept = c.self.inside in
    let at = c.cuts_upto-after.ensures in
    let some : 0 < c.cuts_upto-after.result = omega (arith, c.if-after-eq0.false) in
    let h = found c.args.self.now kept.spans.items kept.cuts.items c.as_slice.result.now c.args.place
    c.cuts_upto-after.result (c.self.invariant.0
    ∙ ap spans c.self.view_is) c.self.invariant.1 c.as_slice.ensures.value at.within at.upto at.above some
    c.index.result.now c.index.ensures c.in_ok-sequence.sequence c.in_ok-sequence.was c.index-span.result.now
    c.index-span.ensures c.probe.result.rows.now c.probe.ensures.rows in
    h.high

pub returns : goal.returns
returns c =
    let kept = c.self.inside in
    let at = c.cuts_upto-after.ensures in
    let some : 0 < c.cuts_upto-after.result = omega (arith, c.if-after-eq0.false) in
    let h = found c.args.self.now kept.spans.items kept.cuts.items c.as_slice.result.now c.args.place
    c.cuts_upto-after.result (c.self.invariant.0
    ∙ ap spans c.self.view_is) c.self.invariant.1 c.as_slice.ensures.value at.within at.upto at.above some
    c.index.result.now c.index.ensures c.in_ok-sequence.sequence c.in_ok-sequence.was c.index-span.result.now
    c.index-span.ensures c.probe.result.rows.now c.probe.ensures.rows in
    c.search_between.ensures.value ∙ h.value
