use Rattle.dl_sections.proofs.Names.{err_from_is_err_and, refl, of_version}
use Rattle.dl_sections.proofs.DumpingLemmas.{prints_visit, loses_visit}
use Rattle.dl_sections.proofs.dumping.DumperVisitor.foreign.Goals as goal

pub returns-in_err-foreign_unit-clause-heard : goal.returns-in_err-foreign_unit-clause-heard
returns-in_err-foreign_unit-clause-heard g c first start visits dumped =
    let p = err_from_is_err_and c.from_residual.result c.from_residual.ensures.1 in
    rw (p.1, p.2) (loses_visit dumped (record c.args.self.now { printer = record c.args.self.now.printer { now = c.foreign_unit.new.self } }) (g.W.Write.contents c.foreign_unit.new.output)
    (of_version c.args.offset c.args.version) _ c.in_err-foreign_unit.ensures.printed)

pub returns-clause-heard : goal.returns-clause-heard
returns-clause-heard g c first start visits dumped =
    prints_visit dumped _ (g.W.Write.contents c.foreign_unit.new.output)
    (of_version c.args.offset c.args.version)
    c.in_ok-foreign_unit.ensures.printed refl refl refl
