use Rattle.std.proofs.Common.{append_assoc}
use Rattle.dl_print.proofs.text.lines.write_counts.Goals as goal

pub returns-clause-written : goal.returns-clause-written
returns-clause-written c =
    rw (
      c.write_number.ensures.written,
      c.write_number-at-3.ensures.written,
      c.write_number-at-2.ensures.written,
      c.write_number-at.ensures.written,
    )
    (simp append_assoc)
