use Rattle.dl_dump.proofs.UnitLemmas.{settles_unit}
use Rattle.dl_dump.proofs.unit_dumping.UnitDumperVisitor.flush.Goals as goal

pub returns-clause-settled : goal.returns-clause-settled
returns-clause-settled g c flow first start visits goes =
    settles_unit first c.args.self.now start (g.W.Write.contents c.args.output.now) (g.W.Write.contents c.flush.new.output) visits
    c.flush.new.self flow goes c.flush.result c.flush.ensures.settled
