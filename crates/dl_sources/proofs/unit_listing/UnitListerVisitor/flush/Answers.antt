use Rattle.dl_sources.proofs.UnitListingLemmas.{settles}
use Rattle.dl_sources.proofs.unit_listing.UnitListerVisitor.flush.Goals as goal

pub returns-clause-settled : goal.returns-clause-settled
returns-clause-settled g c flow first start visits goes =
    settles g.M.Memory.refuses first c.args.self.now start (g.W.Write.contents c.args._output.now) visits flow goes
