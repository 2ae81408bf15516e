use Rattle.dl_rows.specs.Items.{a_row}
use Rattle.dl_sections.proofs.Names.{err_from_is_err_and, refl, of_item}
use Rattle.dl_sections.proofs.DumpingLemmas.{prints_visit, loses_visit}
use Rattle.dl_sections.proofs.dumping.DumperVisitor.row.Goals as goal

pub returns-in_err-row-clause-heard : goal.returns-in_err-row-clause-heard
returns-in_err-row-clause-heard g c first start visits dumped =
    let p = err_from_is_err_and c.from_residual.result c.from_residual.ensures.1 in
    rw (p.1, p.2) (loses_visit dumped (record c.args.self.now { printer = record c.args.self.now.printer { now = c.row.new.self } }) (g.W.Write.contents c.row.new.output)
    (of_item (a_row c.args._header.now c.args.row.now)) _ c.in_err-row.ensures.printed)

pub returns-clause-heard : goal.returns-clause-heard
returns-clause-heard g c first start visits dumped =
    prints_visit dumped _ (g.W.Write.contents c.row.new.output) (of_item (a_row c.args._header.now c.args.row.now))
    c.in_ok-row.ensures.printed refl refl refl
