use Rattle.std.proofs.Common.{append_assoc}
use Rattle.dl_print.proofs.text.damage.write_damage.Goals as goal

pub returns-clause-written : goal.returns-clause-written
returns-clause-written c =
    rw (
      c.write_fault.ensures.written,
      c.write_bytes-at.ensures.written,
      c.write_hexadecimal_number-at.ensures.written,
    )
    (simp append_assoc)
