use Rattle.dl_sections.proofs.Names.{err_from_is_err_and, refl, of_open}
use Rattle.dl_sections.proofs.DumpingLemmas.{prints_visit, loses_visit}
use Rattle.dl_sections.proofs.dumping.DumperVisitor.unterminated.Goals as goal

pub returns-in_err-open_sequence-clause-heard : goal.returns-in_err-open_sequence-clause-heard
returns-in_err-open_sequence-clause-heard g c first start visits dumped =
    let p = err_from_is_err_and c.from_residual.result c.from_residual.ensures.1 in
    rw (p.1, p.2) (loses_visit dumped (record c.args.self.now { printer = record c.args.self.now.printer { now = c.open_sequence.new.self } }) (g.W.Write.contents c.open_sequence.new.output)
    of_open _ c.in_err-open_sequence.ensures.printed)

pub returns-clause-heard : goal.returns-clause-heard
returns-clause-heard g c first start visits dumped =
    prints_visit dumped _ (g.W.Write.contents c.open_sequence.new.output) of_open
    c.in_ok-open_sequence.ensures.printed refl refl refl
