use Rattle.std.proofs.Common.{append_assoc}
use Rattle.dl_print.proofs.DecimalLemmas.{decimal_short}
use Rattle.dl_print.proofs.text.digits.write_short.Goals as goal

pub returns-clause-written : goal.returns-clause-written
returns-clause-written c =
    rw (
      c.write_digit_if.ensures.written,
      c.write_digit_if-at-3.ensures.written,
      c.write_digit_if-at-2.ensures.written,
      c.write_digit_if-at.ensures.written,
      decimal_short c.args.number c.requires.short,
    )
    (simp append_assoc)
