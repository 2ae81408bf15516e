use Rattle.dl_sources.proofs.ListingLemmas.{row_counted}
use Rattle.dl_sources.proofs.lister.ListerVisitor.row.Goals as goal

pub returns-clause-heard : goal.returns-clause-heard
returns-clause-heard g c first start visits s =
    row_counted first c.args.self.now c.count_row.new.self start (g.W.Write.contents c.args._output.now) visits s c.args._header.now
    c.args.row.now (c.count_row.ensures.same, c.count_row.ensures.counted)
