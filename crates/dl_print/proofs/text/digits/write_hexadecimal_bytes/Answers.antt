use Rattle.std.proofs.Common.{◌≡◌, ◌+◌, ◌-◌, ◌*◌, ◌++◌, length, take, drop, arith, ap, ◌∙◌, length-take, length-drop}
use Rattle.std.proofs.lemmas.Slice.{take-put_mid}
use Rattle.hex.specs.Hex.{encode_lower}
use Rattle.dl_print.proofs.HexadecimalLemmas.{encode_lower-digits, on_ok}
use Rattle.dl_print.proofs.text.digits.write_hexadecimal_bytes.Goals as goal

pub returns-clause-written : goal.returns-clause-written
returns-clause-written c =
    let bytes = c.args.bytes.now in
    let at = c.args.at in
    let buffer = c.args.buffer.now in
    let room = at + 2 * length bytes - at in
    let digits = c.encode_to_slice.new.output in
    let encoded = c.encode_to_slice.ensures in
    let fits : length (take room (drop at buffer)) ≡ 2 * length bytes =
    omega (arith, length-take room (drop at buffer), length-drop at buffer) in
    let same : digits ≡ encode_lower bytes = on_ok c.encode_to_slice.result (encoded.fits.1 fits) encoded.written in
    let long : length digits ≡ 2 * length bytes = c.encode_to_slice.auto.output ∙ fits in
    take-put_mid at room buffer digits (at + 2 * length bytes) (omega (arith, long)) (omega arith)
    ∙ ap (λ w. take at buffer ++ w) (same ∙ encode_lower-digits bytes (λ i. let small = c.type_inv.bytes i in
    omega arith))
