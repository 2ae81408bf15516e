use Rattle.std.proofs.Common.{◌∙◌, [], ◌∷◌, arith, ap, ap₂, length}
use Rattle.std.specs.Prelude.{slice_set}
use Rattle.dl_buffers.proofs.RoomLemmas.{length-over, over_full, over_more}
use Rattle.dl_source_buffers.proofs.room.put.Goals as goal

pub returns-then-at-room : goal.returns-then-at-room
returns-then-at-room g c first items is at =
    ap₂ (λ l i. slice_set l i c.args.item) is at
    ∙ over_more first items c.args.item
    (omega (arith, at, c.if-at-room.true, ap length is, length-over first items))

pub returns-else-at-room : goal.returns-else-at-room
returns-else-at-room g c first items is at =
    is ∙ over_full first items (c.args.item ∷ [])
    (omega (arith, at, c.if-at-room.false, ap length is, length-over first items))
