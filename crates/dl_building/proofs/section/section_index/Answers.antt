use Rattle.dl_building.proofs.section.section_index.Goals as goal

pub returns-then-keep_going : goal.returns-then-keep_going
returns-then-keep_going g c = rw (c.if-keep_going.true) c.index_around.ensures

pub returns-else-keep_going : goal.returns-else-keep_going
returns-else-keep_going g c = rw (c.if-keep_going.false) c.index_to_fault.ensures
