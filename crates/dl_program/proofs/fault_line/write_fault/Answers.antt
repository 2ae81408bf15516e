use Rattle.std.proofs.Common.{append_assoc}
use Rattle.dl_program.proofs.fault_line.write_fault.Goals as goal

pub returns-in-ForeignUnit-clause-written : goal.returns-in-ForeignUnit-clause-written
returns-in-ForeignUnit-clause-written c =
    rw (c.in-ForeignUnit.is, c.write_bytes-in-ForeignUnit.ensures.written, c.write_hexadecimal_number-at.ensures.written)
    (simp append_assoc)
