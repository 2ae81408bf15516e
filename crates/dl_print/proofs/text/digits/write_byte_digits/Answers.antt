use Rattle.std.proofs.Common.{append_assoc}
use Rattle.dl_print.proofs.HexadecimalLemmas.{get_or-BYTE_DIGITS, two_digits}
use Rattle.dl_print.proofs.text.digits.write_byte_digits.Goals as goal

pub returns-clause-written : goal.returns-clause-written
returns-clause-written c =
    let b = c.args.byte in
    let digits = get_or-BYTE_DIGITS b c.ranges.byte.fits in
    rw (
      c.write_byte.ensures.written,
      c.write_byte-at.ensures.written,
      append_assoc,
      two_digits b c.ranges.byte.fits,
      digits.0,
      digits.1,
    )
