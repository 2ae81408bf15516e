use Rattle.dl_sources.proofs.UnitListingLemmas.{open_heard}
use Rattle.dl_sources.proofs.unit_listing.UnitListerVisitor.unterminated.Goals as goal

pub returns-clause-heard : goal.returns-clause-heard
returns-clause-heard g c first start visits s =
    open_heard first c.args.self.now start (g.W.Write.contents c.args._output.now) visits s
