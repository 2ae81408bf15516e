use Rattle.std.proofs.Common.{◌≡◌, ◌%◌, bit_xor, sym, ap, ◌∙◌, arith}
use Rattle.std.proofs.lemmas.Nat.{xor_mod}
use Rattle.dl_crc.proofs.crc.sum_of.Goals as goal

pub returns : goal.returns
returns c =
    let small = c.ranges.byte.fits in
    let byte : c.args.byte % 256 ≡ c.args.byte = omega arith in
    ap (bit_xor (c.args.register % 256)) (sym byte) ∙ sym (xor_mod c.args.register c.args.byte 8)
