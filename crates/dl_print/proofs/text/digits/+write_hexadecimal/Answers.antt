use Rattle.std.proofs.Common.{append_assoc, arith}
use Rattle.dl_print.proofs.HexadecimalLemmas.{hexadecimal_digit, hexadecimal_step}
use Rattle.dl_print.proofs.text.digits.+write_hexadecimal.Goals as goal

pub returns-then-number-lt16-clause-written : goal.returns-then-number-lt16-clause-written
returns-then-number-lt16-clause-written t c =
    rw (c.write_byte.ensures.written, c.last_digit.ensures, hexadecimal_digit c.args.number c.if-number-lt16.true)

pub returns-clause-written : goal.returns-clause-written
returns-clause-written t c =
    rw (
      c.write_byte-2.ensures.written,
      c.write_hexadecimal-at.ensures.written,
      c.last_digit-2.ensures,
      hexadecimal_step c.args.number c.if-number-lt16.false (omega arith),
      append_assoc,
    )
