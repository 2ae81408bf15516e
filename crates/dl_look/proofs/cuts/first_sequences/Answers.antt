use Rattle.std.proofs.Common.{◌&&◌, get_or, None, false, arith, sym, ap, ◌∙◌}
use Rattle.std.specs.Prelude.{nat_le, nat_lt}
use Rattle.dl_look.specs.Answer.{is_at_most, is_below}
use Rattle.dl_look.specs.Cuts.{no_span}
use Rattle.dl_look.specs.Slots.{slot_place}
use Rattle.dl_look.proofs.CutLemmas.{within_span, first_more, or-none}
use Rattle.dl_look.proofs.cuts.first_sequences.Goals as goal
use Rattle.dl_look.proofs.cuts.first_sequences.Goals.{then-span, else-span}

pub loop-i-preserved : goal.loop-i-preserved
loop-i-preserved g c =
    let l = c.loop-i in
    let i = l.invariant in
    let slots = c.args.slots.now in
    let spans = c.args.spans.now in
    let s = get_or spans l.i no_span in
    elim c.if-span.branch [
      | then-span w ↦ (
          let low = w.first_not_below-low in
          let high = w.first_not_below-high in
          let n = i.count in
          rw (w.links-is, w.sequences-is) (record {
            linked = w.cover.ensures.linked;
            links = omega (arith, w.cover.ensures.links, w.cover.ensures.count, i.links);
            count = w.cover.ensures.count ∙ i.count;
            opens = λ j lt. w.cover.ensures.opens j (omega (arith, w.cover.ensures.count));
            first = λ j lt. first_more spans l.i (slot_place slots j) (nat_le low.result j && nat_lt j high.result)
                (get_or l.sequences.items j None) _ (omega arith)
                (within_span slots s low.result high.result j lt low.ensures.below low.ensures.rest high.ensures.below
                high.ensures.rest w.if-span.true) (i.first j lt) (w.cover.ensures.given j (omega arith));
          }))
      | else-span w ↦ rw (w.links-is, w.sequences-is) (record {
        linked = i.linked;
        links = i.links;
        count = i.count;
        opens = i.opens;
        first = λ j lt. first_more spans l.i (slot_place slots j) false (get_or l.sequences.items j None)
            (get_or l.sequences.items j None) (omega arith)
            (sym (ap (λ b. b && (is_at_most s.first (slot_place slots j) && is_below (slot_place slots j) s.last))
            w.if-span.false)) (i.first j lt) (sym (or-none (get_or l.sequences.items j None)));
      })
    ]
