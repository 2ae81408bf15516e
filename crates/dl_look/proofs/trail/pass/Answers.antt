use Rattle.std.proofs.Common.{◌≡◌, ℕ, ◌<◌, ◌≤◌, length, false, arith, sym, ap, ◌∙◌}
use Rattle.dl_look.specs.declared.trail.Stretch.{Stretch}
use Rattle.dl_look.specs.Answer.{is_below}
use Rattle.dl_look.specs.Slots.{slot_place}
use Rattle.dl_look.specs.Trails.{row_at}
use Rattle.dl_look.proofs.SlotLemmas.{goes_down}
use Rattle.dl_look.proofs.TrailLemmas.{split_at, row_at-push}
use Rattle.dl_look.proofs.trail.pass.Goals as goal
use Rattle.dl_look.proofs.trail.pass.Goals.{then-end-slots-via-then-end-slots}
use Rattle.dl_look.proofs.trail.pass.Goals.{then-end-slots-via-else-end-slots+then-not-is_below}

pub returns-then-end-slots-clause-split : goal.returns-then-end-slots-clause-split
returns-then-end-slots-clause-split c =
    let slots = c.args.slots.now in
    split_at slots c.args.place c.args.end c.requires.below (elim c.then-end-slots.branch as (λ b. (j : ℕ)
    → c.args.end ≤ j → j < length slots → is_below (slot_place slots j) c.args.place ≡ false) [
      | then-end-slots-via-then-end-slots w ↦ λ j le lt. absurd (omega arith)
      | then-end-slots-via-else-end-slots+then-not-is_below w ↦ goes_down slots c.args.place c.args.end
          c.requires.rising (sym w.is_below.ensures ∙ w.if-not-is_below.true)
    ])

pub returns-clause-rows : goal.returns-clause-rows
returns-clause-rows c j =
    let stretch : Stretch = record { start = c.args.end; row = c.args.last.now } in
    ap (λ l. row_at l c.first_not_below.result j) c.push_reserved.ensures.items
    ∙ row_at-push c.args.trail.now.items stretch c.first_not_below.result j
