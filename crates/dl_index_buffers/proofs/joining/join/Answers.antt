use Rattle.std.proofs.Common.{ℕ, List, [], ◌++◌, refl, ap, ap₂, ◌∙◌}
use Rattle.dl_buffers.specs.UnitCalls.{length_told, written_over}
use Rattle.dl_buffers.proofs.RoomLemmas.{over_none}
use Rattle.dl_index_buffers.proofs.joining.join.Goals as goal

pub returns-clause-written : goal.returns-clause-written
returns-clause-written c =
    let room = c.args.room.now in
    let first = c.text_at.result.now in
    let second = c.text_at-2.result.now in
    let w1 = c.add-at.ensures.written room [] (over_none room) refl in
    let l1 = c.add-at.ensures.len [] refl in
    let w2 = c.add-at-2.ensures.written room first w1 l1 in
    let l2 = c.add-at-2.ensures.len first l1 in
    c.add.ensures.written room (first ++ second) w2 l2 ∙ ap (written_over room) (ap₂ (λ (x y : List ℕ). x ++ y)
    (ap₂ (λ (x y : List ℕ). x ++ y) c.text_at.ensures c.text_at-2.ensures) c.text_at-3.ensures)

pub returns-clause-len : goal.returns-clause-len
returns-clause-len c =
    let first = c.text_at.result.now in
    let second = c.text_at-2.result.now in
    let l1 = c.add-at.ensures.len [] refl in
    let l2 = c.add-at-2.ensures.len first l1 in
    c.add.ensures.len (first ++ second) l2 ∙ ap length_told (ap₂ (λ (x y : List ℕ). x ++ y)
    (ap₂ (λ (x y : List ℕ). x ++ y) c.text_at.ensures c.text_at-2.ensures) c.text_at-3.ensures)
