use Rattle.std.proofs.lemmas.Bool.{eq-eqb, ne_eqb}
use Rattle.dl_sources.proofs.UnitListingLemmas.{header_stops, other_begins, own_begins}
use Rattle.dl_sources.proofs.unit_listing.UnitListerVisitor.header.Goals as goal

pub returns-then-offset-self-clause-heard : goal.returns-then-offset-self-clause-heard
returns-then-offset-self-clause-heard g c first start visits s =
    other_begins first c.args.self.now start (g.W.Write.contents c.args._output.now) visits s c.args.offset c.args._lengths
    c.args.header.now (ne_eqb c.args.offset c.args.self.now.unit c.if-offset-self.true)

pub returns-in-Ok-clause-heard : goal.returns-in-Ok-clause-heard
returns-in-Ok-clause-heard g c first start visits s =
    own_begins first c.args.self.now start (g.W.Write.contents c.args._output.now) visits s c.args.offset c.args._lengths
    c.args.header.now (eq-eqb c.args.offset c.args.self.now.unit c.if-offset-self.false) c.begin_unit.new.self
    c.in-Ok.ensures.begun c.in-Ok.ensures.counts

pub returns-in-Err-clause-heard : goal.returns-in-Err-clause-heard
returns-in-Err-clause-heard g c first start visits s =
    let r = c.in-Err.ensures.refused in
    rw r.0 (header_stops first c.args.self.now start (g.W.Write.contents c.args._output.now) visits s c.args.offset c.args._lengths
    c.args.header.now (eq-eqb c.args.offset c.args.self.now.unit c.if-offset-self.false) r.1 r.2 r.3)
