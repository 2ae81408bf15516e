use Rattle.std.proofs.Common.{◌≡◌, ◌+◌, ◌/◌, ◌%◌, ◌^◌, arith, sym, ap, ap₂, ◌∙◌, length, refl}
use Rattle.std.specs.List.{concat}
use Rattle.dl_pack.proofs.BitPlaces.{bits_len, byte_there, bit_put, bit_left}
use Rattle.dl_pack.proofs.writer.put_bit.Goals as goal

pub returns-then-bit_of-eq0 : goal.returns-then-bit_of-eq0
returns-then-bit_of-eq0 c = λ before list room is at k less.
    bit_left before list room (length (concat before) + length list / 8) c.args.bytes.now is refl less c.args.stretch.now
    (sym c.bit_of.ensures ∙ c.if-bit_of-eq0.true)

pub returns-then-k-saturating_sub : goal.returns-then-k-saturating_sub
returns-then-k-saturating_sub c = λ before list room is at k less. (
    let n = bits_len before list room (length (concat before) + length list / 8) c.args.bytes.now is refl less in
    absurd (omega (arith, n, at, k, less, c.if-k-saturating_sub.true, c.saturating_sub.ensures)))

pub returns : goal.returns
returns c = λ before list room is at k less. (
    let place : c.args.bits + c.args.k / 8 ≡ length (concat before) + length list / 8 = ap₂ (λ a b. a + b / 8) at k in
    bit_put before list room (c.args.bits + c.args.k / 8) c.args.bytes.now is place less c.args.stretch.now _ c.weight_of.result _
    (λ none. c.if-bit_of-eq0.false (c.bit_of.ensures ∙ none))
    (byte_there before list room (c.args.bits + c.args.k / 8) c.args.bytes.now is place less 0)
    (c.weight_of.ensures ∙ ap (λ n. 2 ^ (n % 8)) k) c.saturating_add.ensures)
