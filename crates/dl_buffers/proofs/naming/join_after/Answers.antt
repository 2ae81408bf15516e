use Rattle.dl_buffers.proofs.naming.join_after.Goals as goal

pub returns-in-Some-clause-written : goal.returns-in-Some-clause-written
returns-in-Some-clause-written c first text is at = rw (c.in-Some.is) (c.known_after.ensures.written first text is at)

pub returns-in-Some-clause-len : goal.returns-in-Some-clause-len
returns-in-Some-clause-len c text at = rw (c.in-Some.is) (c.known_after.ensures.len text at)

pub returns-in-None-clause-written : goal.returns-in-None-clause-written
returns-in-None-clause-written c first text is at = rw (c.in-None.is) (c.add.ensures.written first text is at)

pub returns-in-None-clause-len : goal.returns-in-None-clause-len
returns-in-None-clause-len c text at = rw (c.in-None.is) (c.add.ensures.len text at)
