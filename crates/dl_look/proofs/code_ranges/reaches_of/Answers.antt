use Rattle.std.proofs.Common.{rules, ◌+◌, get_or, max, refl, ap₂, ◌∙◌}
use Rattle.dl_look.specs.Ranges.{no_range}
use Rattle.dl_look.proofs.RangeLemmas.{one_more}
use Rattle.dl_look.proofs.code_ranges.reaches_of.Goals as goal

pub loop-range-preserved : goal.loop-range-preserved
loop-range-preserved g c =
    let l = c.loop-range in
    let ranges = c.args.ranges.now in
    let end = c.max-end.ensures ∙ ap₂ (λ a b. max (a + b) l.end) c.from.ensures c.from-in-loop-range.ensures in
    record {
      so_far =
          rw c.push_reserved.ensures.items (one_more ranges l.reaches.items l.range-index l.end c.max-end.result
          (get_or ranges l.range-index no_range) c.requires l.invariant.so_far
          c.loop-range-test.true refl end);
      capacity = search rules;
    }
