use Rattle.dl_finding_buffers.proofs.section_findings.lint_section.Goals as goal

pub returns-then-keep_going : goal.returns-then-keep_going
returns-then-keep_going g c = rw (c.if-keep_going.true) c.lint_around_damage.ensures

pub returns-else-keep_going : goal.returns-else-keep_going
returns-else-keep_going g c = rw (c.if-keep_going.false) c.lint_to_fault.ensures
