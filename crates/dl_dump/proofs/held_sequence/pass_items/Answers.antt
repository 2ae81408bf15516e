use Rattle.std.proofs.Common.{◌∙◌, ap, arith, get_or, List}
use Rattle.std.proofs.lemmas.List.{take_all}
use Rattle.dl_dump.specs.declared.held_sequence.HeldItem.{HeldItem}
use Rattle.dl_dump.specs.declared.reached.Reached.{Reached}
use Rattle.dl_dump.specs.DetailText.{DetailStyle, reached, reached_after}
use Rattle.dl_dump.specs.RangeText.{visit_held, visits_held}
use Rattle.dl_dump.proofs.RangeItemLemmas.{no_item, reached_more}
use Rattle.dl_dump.proofs.held_sequence.pass_items.Goals as goal

pub loop-item-preserved : goal.loop-item-preserved
loop-item-preserved c strings =
    let i = c.loop-item.item-index in
    let items = c.args.items.now in
    let style : DetailStyle = record { details = c.args.details.now; strings = strings } in
    c.after_item-now.ensures strings
    ∙ ap (λ (at : Reached). reached style at (visit_held c.args.header.now (get_or items i no_item))) (c.loop-item.invariant strings)
    ∙ reached_more style c.args.header.now c.args.at items i no_item c.loop-item-test.true

pub returns : goal.returns
returns c strings =
    let i = c.loop-item.item-index in
    let items = c.args.items.now in
    let style : DetailStyle = record { details = c.args.details.now; strings = strings } in
    c.loop-item.invariant strings
    ∙ ap (λ (l : List HeldItem). reached_after style c.args.at (visits_held c.args.header.now l))
    (take_all i items (omega (arith, c.loop-item-test.false)))
