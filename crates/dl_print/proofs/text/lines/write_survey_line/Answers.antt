use Rattle.std.proofs.Common.{append_assoc}
use Rattle.dl_print.proofs.text.lines.write_survey_line.Goals as goal

pub returns-clause-written : goal.returns-clause-written
returns-clause-written c =
    rw (
      c.write_byte.ensures.written,
      c.write_number-at.ensures.written,
      c.write_counts-at.ensures.written,
    )
    (simp append_assoc)
