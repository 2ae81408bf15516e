use Rattle.std.proofs.Common.{arith}
use Rattle.dl_field.specs.HeaderData.{header_cells}
use Rattle.dl_sections.specs.Section.{of_header}
use Rattle.dl_sources.proofs.ListingLemmas.{header_begun, header_stops}
use Rattle.dl_sources.proofs.lister.ListerVisitor.header.Goals as goal

pub returns-in-Ok-clause-heard : goal.returns-in-Ok-clause-heard
returns-in-Ok-clause-heard g c first start visits s =
    header_begun first c.args.self.now c.begin_unit.new.self start (g.W.Write.contents c.args._output.now) visits s c.args.offset
    c.args._lengths c.args.header.now c.in-Ok.ensures.begun c.in-Ok.ensures.counts

pub returns-in-Err-clause-heard : goal.returns-in-Err-clause-heard
returns-in-Err-clause-heard g c first start visits s =
    let h = c.args.header.now in
    let r = c.in-Err.ensures.refused in
    rw r.0 (header_stops first c.args.self.now start (g.W.Write.contents c.args._output.now) visits
    (of_header c.args.offset c.args._lengths h) s (header_cells h) r.1 (omega arith) r.2 r.3)
