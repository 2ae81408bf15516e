use Rattle.dl_sections.proofs.Names.{err_from_is_err_and}
use Rattle.dl_sections.proofs.SeekerLemmas.{settles, loses}
use Rattle.dl_sections.proofs.finding.SeekerVisitor.flush.Goals as goal

pub returns-in_err-flush-clause-settled : goal.returns-in_err-flush-clause-settled
returns-in_err-flush-clause-settled g c flow first start visits s =
    let p = err_from_is_err_and c.from_residual.result c.from_residual.ensures.1 in
    rw (p.1, p.2) (loses first c.args.self.now c.flush.new.self start (g.W.Write.contents c.args.output.now)
    (g.W.Write.contents c.flush.new.output) visits flow _ s c.in_err-flush.ensures.printed)

pub returns-clause-settled : goal.returns-clause-settled
returns-clause-settled g c flow first start visits s =
    settles first c.args.self.now c.flush.new.self start (g.W.Write.contents c.args.output.now)
    (g.W.Write.contents c.flush.new.output) visits flow s c.in_ok-flush.ensures.printed c.in_ok-flush.ensures.empty
