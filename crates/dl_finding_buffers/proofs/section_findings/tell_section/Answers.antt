use Rattle.dl_finding_buffers.proofs.section_findings.tell_section.Goals as goal

pub returns : goal.returns
returns g c =
    let told = c.lint_section-linted.ensures in
    (told.0, c.lint_section-linted.result.end, told.1, c.tell.ensures told.0 told.2)
