use Rattle.dl_sources.proofs.UnitListingLemmas.{operation_heard}
use Rattle.dl_sources.proofs.unit_listing.UnitListerVisitor.operation.Goals as goal

pub returns-clause-heard : goal.returns-clause-heard
returns-clause-heard g c first start visits s =
    operation_heard first c.args.self.now start (g.W.Write.contents c.args._output.now) visits s c.args._header.now c.args._operation
