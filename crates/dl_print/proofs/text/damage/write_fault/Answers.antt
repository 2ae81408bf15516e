use Rattle.std.proofs.Common.{take, append_assoc, ◌∙◌}
use Rattle.dl_print.proofs.text.damage.write_fault.Goals as goal

pub returns-in-StandardLength-clause-written : goal.returns-in-StandardLength-clause-written
returns-in-StandardLength-clause-written c =
    rw (c.in-StandardLength.is) (c.write_number.ensures.written ∙ append_assoc (take c.args.at c.args.buffer.now) _ _)

pub returns-in-UnknownForm-clause-written : goal.returns-in-UnknownForm-clause-written
returns-in-UnknownForm-clause-written c =
    rw (c.in-UnknownForm.is) (c.write_hexadecimal_number.ensures.written ∙ append_assoc (take c.args.at c.args.buffer.now) _ _)

pub returns-in-EmptyFormat-clause-written : goal.returns-in-EmptyFormat-clause-written
returns-in-EmptyFormat-clause-written c = rw (c.in-EmptyFormat.is) c.write_bytes-in-EmptyFormat.ensures.written

pub returns-in-ExtendedEmpty-clause-written : goal.returns-in-ExtendedEmpty-clause-written
returns-in-ExtendedEmpty-clause-written c = rw (c.in-ExtendedEmpty.is) c.write_bytes-in-ExtendedEmpty.ensures.written

pub returns-in-ExtendedLength-clause-written : goal.returns-in-ExtendedLength-clause-written
returns-in-ExtendedLength-clause-written c = rw (c.in-ExtendedLength.is) c.write_bytes-in-ExtendedLength.ensures.written

pub returns-in-OpcodeOverrun-clause-written : goal.returns-in-OpcodeOverrun-clause-written
returns-in-OpcodeOverrun-clause-written c = rw (c.in-OpcodeOverrun.is) c.write_bytes-in-OpcodeOverrun.ensures.written
