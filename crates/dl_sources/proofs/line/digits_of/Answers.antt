use Rattle.std.proofs.Common.{arith, ap, length, ◌∙◌}
use Rattle.hex.specs.Hex.{encode_lower}
use Rattle.dl_print.proofs.HexadecimalLemmas.{encode_lower-digits, on_ok}
use Rattle.dl_sources.proofs.line.digits_of.Goals as goal

pub returns : goal.returns
returns c =
    let encoded = c.encode_to_slice.ensures in
    on_ok c.encode_to_slice.result (encoded.fits.1 (omega (arith, c.told-sum, ap length c.as_slice.ensures))) encoded.written
    ∙ ap encode_lower c.as_slice.ensures
    ∙ encode_lower-digits c.args.sum.now (λ i. let small = c.fits-sum i in omega arith)
