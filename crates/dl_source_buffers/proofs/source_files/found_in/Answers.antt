use Rattle.dl_source_buffers.proofs.source_files.found_in.Goals as goal

pub returns-then-keep_going : goal.returns-then-keep_going
returns-then-keep_going g c = rw (c.if-keep_going.true) c.found_around.ensures

pub returns-else-keep_going : goal.returns-else-keep_going
returns-else-keep_going g c = rw (c.if-keep_going.false) c.found_to_fault.ensures
