use Rattle.std.proofs.Common.{bit_xor, ap, ap₂, ◌∙◌}
use Rattle.dl_crc.specs.Crc32.{shifts}
use Rattle.dl_crc.proofs.CrcLemmas.{eight_bytes}
use Rattle.dl_crc.proofs.crc.with_eight.Goals as goal

pub returns : goal.returns
returns c =
    ap₂ bit_xor
    (ap₂ bit_xor
    (ap₂ bit_xor
    (ap₂ bit_xor (c.row_of.ensures ∙ ap (shifts 64) c.sum_of.ensures) (c.row_of-2.ensures ∙ ap (shifts 56) c.sum_of-2.ensures))
    (c.row_of-3.ensures ∙ ap (shifts 48) c.sum_of-3.ensures))
    (c.row_of-4.ensures ∙ ap (shifts 40) c.sum_of-4.ensures))
    (ap₂ bit_xor (ap₂ bit_xor (ap₂ bit_xor c.row_of-5.ensures c.row_of-6.ensures) c.row_of-7.ensures) c.row_of-8.ensures)
    ∙ eight_bytes c.args.register c.args.bytes.now c.told-bytes c.ranges.register.fits c.fits-bytes
