use Rattle.std.proofs.Common.{ℕ, List, ◌++◌, [], refl, ap, ◌∙◌, codes}
use Rattle.dl_buffers.specs.UnitCalls.{length_told, written_over}
use Rattle.dl_buffers.proofs.RoomLemmas.{over_none}
use Rattle.dl_index_buffers.proofs.telling.add_fault.Goals as goal

pub returns-in-NotAnIndex-clause-written : goal.returns-in-NotAnIndex-clause-written
returns-in-NotAnIndex-clause-written c =
    rw (c.in-NotAnIndex.is) (c.add.ensures.written c.args.room.now [] (over_none c.args.room.now) refl)

pub returns-in-NotAnIndex-clause-len : goal.returns-in-NotAnIndex-clause-len
returns-in-NotAnIndex-clause-len c = rw (c.in-NotAnIndex.is) (c.add.ensures.len [] refl)

pub returns-in-Version-clause-written : goal.returns-in-Version-clause-written
returns-in-Version-clause-written c =
    let room = c.args.room.now in
    rw (c.in-Version.is) (c.add_decimal.ensures.written room (codes "an index of version ")
    (c.add-at.ensures.written room [] (over_none room) refl) (c.add-at.ensures.len [] refl))

pub returns-in-Version-clause-len : goal.returns-in-Version-clause-len
returns-in-Version-clause-len c =
    rw (c.in-Version.is) (c.add_decimal.ensures.len (codes "an index of version ") (c.add-at.ensures.len [] refl))

pub returns-in-Damaged-clause-written : goal.returns-in-Damaged-clause-written
returns-in-Damaged-clause-written c =
    let room = c.args.room.now in
    let first = codes "damaged index: " in
    rw (c.in-Damaged.is) (c.add-in-Damaged.ensures.written room first
    (c.add-at-in-Damaged.ensures.written room [] (over_none room) refl) (c.add-at-in-Damaged.ensures.len [] refl)
    ∙ ap (λ (l : List ℕ). written_over room (first ++ l)) c.part_words.ensures)

pub returns-in-Damaged-clause-len : goal.returns-in-Damaged-clause-len
returns-in-Damaged-clause-len c =
    let first = codes "damaged index: " in
    rw (c.in-Damaged.is) (c.add-in-Damaged.ensures.len first (c.add-at-in-Damaged.ensures.len [] refl)
    ∙ ap (λ (l : List ℕ). length_told (first ++ l)) c.part_words.ensures)
