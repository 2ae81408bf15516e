use Rattle.std.proofs.Common.{◌≡◌, ◌<◌, ◌^◌, ◌-◌, ◌++◌, ℕ, List, arith, ap, ap₂, ◌∙◌, length, take, drop}
use Rattle.dl_buffers.specs.UnitCalls.{written_over}
use Rattle.dl_buffers.proofs.RoomLemmas.{length-over, over_added}
use Rattle.dl_buffers.proofs.room.add.Goals as goal

pub returns-then-at-end-clause-written : goal.returns-then-at-end-clause-written
returns-then-at-end-clause-written c first text is at =
    let bytes = c.args.bytes.now in
    let k = c.min-end.result - c.args.at in
    let small : length c.args.room.now < 2 ^ 64 = search in
    let size : length c.args.room.now ≡ length first = ap length is ∙ length-over first text in
    let at_is : c.args.at ≡ length text =
    omega (arith, at, c.if-at-end.true, c.min-end.ensures, small) in
    ap₂ (λ (n : ℕ) (l : List ℕ). take n l ++ (c.copy_from_slice.new.self ++ drop k (drop n l))) at_is is
    ∙ ap (λ (l : List ℕ). take (length text) (written_over first text)
    ++ (l ++ drop k (drop (length text) (written_over first text)))) c.copy_from_slice.ensures.after
    ∙ over_added first text bytes k
    (omega (arith, at_is, size, c.if-at-end.true, c.min-end.ensures, small))
    (omega (arith, at_is, size, c.if-at-end.true, c.min-end.ensures, c.saturating_add-after.ensures, small))
