use Rattle.dl_findings.proofs.finding_text.print_opcode.Goals as goal

pub returns-in-Standard-clause-printed : goal.returns-in-Standard-clause-printed
returns-in-Standard-clause-printed g c = rw c.in-Standard.is c.print_passed_opcode.ensures.printed

pub returns-in-Extended-clause-printed : goal.returns-in-Extended-clause-printed
returns-in-Extended-clause-printed g c = rw c.in-Extended.is c.print_passed_opcode-in-Extended.ensures.printed
