use Rattle.dl_sections.proofs.TellingVisits.{settles}
use Rattle.dl_sections.proofs.in_memory.TellingVisitor.flush.Goals as goal

pub returns-clause-settled : goal.returns-clause-settled
returns-clause-settled g c flow first start visits s =
    settles g.U.UnitSink.story first c.args.self.now start (g.W.Write.contents c.args._output.now) visits flow s
