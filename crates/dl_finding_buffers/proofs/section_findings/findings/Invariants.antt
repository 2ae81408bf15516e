use Rattle.dl_finding_buffers.proofs.section_findings.findings.Given as goal

abbrev pub ghosts-tell_section : goal.ghosts-tell_section
ghosts-tell_section g a = record { refuses = g.M.Memory.refuses a.memory.now }
