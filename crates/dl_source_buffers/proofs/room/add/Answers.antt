use Rattle.std.proofs.Common.{◌≡◌, inl, inr, ◌<◌, ◌≤◌, ◌^◌, ◌-◌, ◌++◌, ℕ, List, arith, ap, ap₂, ◌∙◌, length, take, drop}
use Rattle.std.proofs.Common.{⊎_elim}
use Rattle.std.proofs.lemmas.Bool.{cases_lt}
use Rattle.dl_buffers.specs.UnitCalls.{written_over}
use Rattle.dl_buffers.proofs.RoomLemmas.{length-over, over_added}
use Rattle.dl_source_buffers.proofs.SourceLemmas.{over_still}
use Rattle.dl_source_buffers.proofs.room.add.Goals as goal

pub returns-then-at-end-clause-written : goal.returns-then-at-end-clause-written
returns-then-at-end-clause-written g c first before is at =
    let items = c.args.items.now in
    let k = c.min-end.result - c.args.at in
    let small : length c.args.room.now < 2 ^ 64 = search in
    let size : length c.args.room.now ≡ length first = ap length is ∙ length-over first before in
    let at_is : c.args.at ≡ length before =
    omega (arith, at, c.if-at-end.true, c.min-end.ensures, small) in
    ap₂ (λ (n : ℕ) (l : List g.row.T.Denot). take n l ++ (c.copy_from_slice.new.self ++ drop k (drop n l))) at_is is
    ∙ ap (λ (l : List g.row.T.Denot). take (length before) (written_over first before)
    ++ (l ++ drop k (drop (length before) (written_over first before)))) c.copy_from_slice.ensures.after
    ∙ over_added first before items k
    (omega (arith, at_is, size, c.if-at-end.true, c.min-end.ensures, small))
    (omega (arith, at_is, size, c.if-at-end.true, c.min-end.ensures, c.saturating_add-after.ensures, small))

pub returns-else-at-end-clause-written : goal.returns-else-at-end-clause-written
returns-else-at-end-clause-written g c first before is at =
    let items = c.args.items.now in
    let small : length c.args.room.now < 2 ^ 64 = search in
    let size : length c.args.room.now ≡ length first = ap length is ∙ length-over first before in
    is ∙ over_still first before items (⊎_elim
    (λ (lt : length before < length first). inr (omega (
      arith,
      at,
      lt,
      size,
      c.if-at-end.false,
      c.min-end.ensures,
      c.saturating_add-after.ensures,
      small,
    )))
    (λ (le : length first ≤ length before). inl le)
    (cases_lt (length before) (length first)))
