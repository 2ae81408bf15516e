use Rattle.dl_findings.proofs.finding_text.print_passed_opcode.Goals as goal

pub returns-clause-printed : goal.returns-clause-printed
returns-clause-printed g c = rw c.from.ensures at c.print_passed.ensures.printed
