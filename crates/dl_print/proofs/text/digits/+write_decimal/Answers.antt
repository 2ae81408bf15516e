use Rattle.std.proofs.Common.{arith, append_assoc}
use Rattle.dl_print.proofs.DecimalLemmas.{decimal_long}
use Rattle.std.proofs.lemmas.Fmt.{decimal_digit}
use Rattle.dl_print.proofs.text.digits.+write_decimal.Goals as goal

pub returns-clause-written : goal.returns-clause-written
returns-clause-written t c =
    rw (
      c.write_four_digits.ensures.written,
      c.write_decimal-at.ensures.written,
      decimal_long c.args.number c.if-number-lt10000.false (omega arith),
      append_assoc,
    )

pub returns-then-number-lt10-clause-written : goal.returns-then-number-lt10-clause-written
returns-then-number-lt10-clause-written t c =
    rw (c.write_byte.ensures.written, decimal_digit c.args.number c.if-number-lt10.true)
