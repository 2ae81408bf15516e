use Rattle.dl_sections.proofs.Names.{err_from_is_err_and, refl, of_header}
use Rattle.dl_sections.proofs.DumpingLemmas.{prints_visit, loses_visit}
use Rattle.dl_sections.proofs.dumping.DumperVisitor.header.Goals as goal

pub returns-in_err-print_header-clause-heard : goal.returns-in_err-print_header-clause-heard
returns-in_err-print_header-clause-heard g c first start visits dumped =
    let p = err_from_is_err_and c.from_residual.result c.from_residual.ensures.1 in
    rw (p.1, p.2) (loses_visit dumped (record c.args.self.now { printer = record c.args.self.now.printer { now = c.print_header.new.printer } }) (g.W.Write.contents c.print_header.new.output)
    (of_header c.args.offset c.args.lengths c.args.header.now) _ c.in_err-print_header.ensures.printed)

pub returns-clause-heard : goal.returns-clause-heard
returns-clause-heard g c first start visits dumped =
    prints_visit dumped _ (g.W.Write.contents c.print_header.new.output)
    (of_header c.args.offset c.args.lengths c.args.header.now)
    c.in_ok-print_header.ensures.printed refl refl refl
