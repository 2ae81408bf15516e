use Rattle.std.proofs.Common.{◌∙◌, ℕ, List, [], ◌∷◌, arith, ap, ap₂, length}
use Rattle.std.specs.Prelude.{slice_set}
use Rattle.dl_buffers.proofs.RoomLemmas.{length-over, over_full, over_more}
use Rattle.dl_buffers.proofs.room.put.Goals as goal

pub returns-then-at-room : goal.returns-then-at-room
returns-then-at-room c first numbers is at =
    ap₂ (λ (l : List ℕ) (i : ℕ). slice_set l i c.args.number) is at
    ∙ over_more first numbers c.args.number
    (omega (arith, at, c.if-at-room.true, ap length is, length-over first numbers))

pub returns-else-at-room : goal.returns-else-at-room
returns-else-at-room c first numbers is at =
    is ∙ over_full first numbers (c.args.number ∷ [])
    (omega (arith, at, c.if-at-room.false, ap length is, length-over first numbers))
