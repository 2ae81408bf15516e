use Rattle.std.proofs.Common.{Bool, ap, sym}
use Rattle.std.proofs.lemmas.Bool.{eq-eqb, ne_eqb}
use Rattle.std.specs.Prelude.{if◌then◌else◌}
use Rattle.dl_sources.specs.declared.unit_listing.Current.TheVariants.{Foreign, Other}
use Rattle.dl_sources.proofs.UnitListingLemmas.{version_heard}
use Rattle.dl_sources.proofs.unit_listing.UnitListerVisitor.foreign.Goals as goal

pub returns-then-offset-self-clause-heard : goal.returns-then-offset-self-clause-heard
returns-then-offset-self-clause-heard g c first start visits s =
    version_heard first c.args.self.now start (g.W.Write.contents c.args._output.now) visits s c.args.offset c.args._version Foreign
    (sym (ap (λ (b : Bool). if b then Foreign else Other) (eq-eqb c.args.offset c.args.self.now.unit c.if-offset-self.true)))

pub returns-else-offset-self-clause-heard : goal.returns-else-offset-self-clause-heard
returns-else-offset-self-clause-heard g c first start visits s =
    version_heard first c.args.self.now start (g.W.Write.contents c.args._output.now) visits s c.args.offset c.args._version Other
    (sym (ap (λ (b : Bool). if b then Foreign else Other) (ne_eqb c.args.offset c.args.self.now.unit c.if-offset-self.false)))
