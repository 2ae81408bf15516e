use Rattle.std.proofs.Common.{◌∙◌, ◌+◌, ap, drop, get_or, take}
use Rattle.std.proofs.lemmas.Result.{err_from_is_err_and}
use Rattle.dl_print.proofs.Outs.{PrintsMore-then, TellsOut-part}
use Rattle.dl_print.specs.ValueText.{strings_of}
use Rattle.dl_dump.specs.declared.reached.Reached.{Reached}
use Rattle.dl_dump.specs.DetailText.{DetailStyle, reached, reached_after, shown_after, shown_visit}
use Rattle.dl_dump.specs.RangeText.{visit_held, visits_held}
use Rattle.dl_dump.proofs.RangeItemLemmas.{no_item, reached_more, shown_more, shown_split}
use Rattle.dl_dump.proofs.held_sequence.print_items.Goals as goal

pub returns-in_err-print_item-clause-printed : goal.returns-in_err-print_item-clause-printed
returns-in_err-print_item-clause-printed g c start text h =
    let e = err_from_is_err_and c.from_residual.result c.from_residual.ensures.1 in
    let i = c.loop-item.item-index in
    let items = c.args.items.now in
    let header = c.args.header.now in
    let at = c.args.at in
    let style : DetailStyle = record { details = c.args.details.now; strings = strings_of c.args.strings.now } in
    let tells = rw c.loop-item.invariant.reached at (c.in_err-print_item.ensures.printed start _ (c.loop-item.invariant.printed start text h)) in
    rw (e.1, e.2) (TellsOut-part start _ text (shown_after style at (visits_held header (take i items)))
    (shown_visit style (reached_after style at (visits_held header (take i items))) (visit_held header (get_or items i no_item)))
    (shown_after style (reached_after style at (visits_held header (take (i + 1) items))) (visits_held header (drop (i + 1) items)))
    (shown_after style at (visits_held header items)) _
    (shown_split style header at items i no_item c.loop-item-test.true) tells)

pub loop-item-preserved : goal.loop-item-preserved
loop-item-preserved g c =
    let i = c.loop-item.item-index in
    let items = c.args.items.now in
    let header = c.args.header.now in
    let at = c.args.at in
    let style : DetailStyle = record { details = c.args.details.now; strings = strings_of c.args.strings.now } in
    record {
      reached = c.after_item-now.ensures (strings_of c.args.strings.now)
          ∙ ap (λ (a : Reached). reached style a (visit_held header (get_or items i no_item))) c.loop-item.invariant.reached
          ∙ reached_more style header at items i no_item c.loop-item-test.true;
      printed =
          let more = rw c.loop-item.invariant.reached at c.in_ok-print_item.ensures.printed in
          PrintsMore-then _ _ _ _ _ _ (shown_after style at (visits_held header (take i items)))
          (shown_visit style (reached_after style at (visits_held header (take i items))) (visit_held header (get_or items i no_item)))
          (shown_after style at (visits_held header (take (i + 1) items)))
          (shown_more style header at items i no_item c.loop-item-test.true) c.loop-item.invariant.printed more;
    }
