use Rattle.std.proofs.Common.{◌<◌, length, arith, sym, ap, ◌∙◌}
use Rattle.dl_look.specs.Answer.{sequences}
use Rattle.dl_look.proofs.SpanLemmas.{all_passed, hit, miss, length-spans}
use Rattle.dl_look.proofs.searching.search.Goals as goal

pub search_between-requires : goal.search_between-requires
search_between-requires g c =
    let rows = g.T.Probed.list c.args.table.now in
    let probe = c.sequence-span.ensures in
    let lt : c.loop-i.i < length (sequences rows) = omega (arith, length-spans rows) in
    let h = hit rows _ _ _ _ _ c.loop-i.invariant lt _ probe.value probe.same (sym c.covers.ensures
    ∙ c.if-covers.true) in
    record {
      within = h.within;
      small = (let same = ap length (probe.same ∙ c.loop-i.invariant.same) in omega arith);
      countable = omega arith;
      rising = h.rising;
      low = h.low;
      high = h.high;
    }

pub returns-then-covers : goal.returns-then-covers
returns-then-covers g c =
    let rows = g.T.Probed.list c.args.table.now in
    let probe = c.sequence-span.ensures in
    let lt : c.loop-i.i < length (sequences rows) = omega (arith, length-spans rows) in
    let h = hit rows _ _ _ _ _ c.loop-i.invariant lt _ probe.value probe.same (sym c.covers.ensures
    ∙ c.if-covers.true) in
    let same = ap length (probe.same ∙ c.loop-i.invariant.same) in
    record {
      value = c.search_between.ensures.value ∙ h.value;
      same = c.search_between.ensures.same ∙ probe.same ∙ c.loop-i.invariant.same;
      few = λ digits enough. omega (arith, h.within, c.search_between.ensures.few digits (omega (arith, h.within)));
    }

pub loop-i-preserved : goal.loop-i-preserved
loop-i-preserved g c =
    let rows = g.T.Probed.list c.args.table.now in
    let probe = c.sequence-span.ensures in
    let lt : c.loop-i.i < length (sequences rows) = omega (arith, length-spans rows) in
    rw probe.counted (miss rows _ _ _ _ _ c.loop-i.invariant lt _ probe.value probe.same (sym c.covers.ensures
    ∙ c.if-covers.false))

pub returns-clause-value : goal.returns-clause-value
returns-clause-value g c =
    let rows = g.T.Probed.list c.args.table.now in
    all_passed rows _ _ _ _ c.loop-i.invariant (omega (arith, length-spans rows))
