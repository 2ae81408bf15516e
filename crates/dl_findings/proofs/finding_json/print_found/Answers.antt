use Rattle.dl_findings.proofs.finding_json.print_found.Goals as goal

pub returns-in-FallingPlace-clause-printed : goal.returns-in-FallingPlace-clause-printed
returns-in-FallingPlace-clause-printed g c = rw c.in-FallingPlace.is c.print_place.ensures.printed

pub returns-in-Md5Missing-clause-printed : goal.returns-in-Md5Missing-clause-printed
returns-in-Md5Missing-clause-printed g c = rw c.in-Md5Missing.is c.print_numbers-in-Md5Missing.ensures.printed
