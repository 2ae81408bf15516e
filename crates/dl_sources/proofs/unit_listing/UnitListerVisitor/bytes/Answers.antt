use Rattle.std.proofs.Common.{List}
use Rattle.dl_sections.specs.Section.{Visit}
use Rattle.dl_sections.proofs.VisitLemmas.{bytes_by_one}
use Rattle.dl_sources.specs.UnitListing.{GoesOnWithUnit}
use Rattle.dl_sources.proofs.UnitListingLemmas.{byte_heard}
use Rattle.dl_sources.proofs.unit_listing.UnitListerVisitor.bytes.Goals as goal

pub returns-clause-heard : goal.returns-clause-heard
returns-clause-heard g c first start visits s =
    let l = c.args.self.now in
    let held = g.W.Write.contents c.args._output.now in
    bytes_by_one (λ (v : List Visit). GoesOnWithUnit g.M.Memory.refuses first l start held v)
    (λ before x told. byte_heard first l start held before told x) visits c.args._bytes.now s
