use Rattle.dl_findings.proofs.finding_text.print_found.Goals as goal

pub returns-in-UnknownContent-clause-printed : goal.returns-in-UnknownContent-clause-printed
returns-in-UnknownContent-clause-printed g c = rw c.in-UnknownContent.is c.print_passed.ensures.printed

pub returns-in-UnusedFile-clause-printed : goal.returns-in-UnusedFile-clause-printed
returns-in-UnusedFile-clause-printed g c = rw c.in-UnusedFile.is c.print_numbers-in-UnusedFile.ensures.printed

pub returns-in-Md5Missing-clause-printed : goal.returns-in-Md5Missing-clause-printed
returns-in-Md5Missing-clause-printed g c = rw c.in-Md5Missing.is c.print_numbers-in-Md5Missing.ensures.printed

pub returns-in-NoStatement-clause-printed : goal.returns-in-NoStatement-clause-printed
returns-in-NoStatement-clause-printed g c = rw c.in-NoStatement.is c.put-in-NoStatement.ensures.printed
