use Rattle.std.proofs.Common.{◌/◌, bit_xor, sym, ap, ◌∙◌}
use Rattle.dl_crc.specs.Crc32.{shifts}
use Rattle.dl_crc.proofs.CrcLemmas.{with_byte-is}
use Rattle.dl_crc.proofs.crc.with_byte.Goals as goal

pub returns : goal.returns
returns c =
    let register = c.args.register in
    ap (λ r. bit_xor r (register / 256)) (c.row_of.ensures ∙ ap (shifts 8) c.sum_of.ensures)
    ∙ sym (with_byte-is register c.args.byte c.ranges.byte.fits)
