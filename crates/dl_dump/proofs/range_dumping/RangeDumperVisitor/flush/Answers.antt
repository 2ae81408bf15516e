use Rattle.dl_dump.proofs.RangeLemmas.{settles}
use Rattle.dl_dump.proofs.range_dumping.RangeDumperVisitor.flush.Goals as goal

pub returns-clause-settled : goal.returns-clause-settled
returns-clause-settled g c flow first start visits goes =
    settles g.D.DamageSink.hears g.M.Memory.refuses first c.args.self.now c.flush.new.self start
    (g.W.Write.contents c.args.output.now) (g.W.Write.contents c.flush.new.output) visits flow goes
    c.in_ok-flush.ensures.printed c.in_ok-flush.ensures.empty
