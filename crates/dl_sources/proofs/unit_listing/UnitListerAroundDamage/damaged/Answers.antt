use Rattle.std.proofs.Common.{◌∙◌, Bool, None, Some, ap, refl, sym}
use Rattle.std.proofs.lemmas.Bool.{eq-eqb, ne_eqb}
use Rattle.std.specs.Prelude.{if◌then◌else◌}
use Rattle.std.specs.Option.{option_or}
use Rattle.dl_sources.proofs.UnitListingLemmas.{damage_heard}
use Rattle.dl_sources.proofs.UnitVisits.{option_or-none}
use Rattle.dl_sources.proofs.unit_listing.UnitListerAroundDamage.damaged.Goals as goal

pub returns-then-unit-self : goal.returns-then-unit-self
returns-then-unit-self g c = record {
  tells = λ first start now visits s.
      damage_heard first c.args.self.now start now visits s c.args.unit c.args.damage.offset c.args.damage.kind _
      (c.or-self.ensures ∙ ap (λ (b : Bool). option_or c.args.self.now.damage (if b then Some c.args.damage else None))
      (sym (eq-eqb c.args.unit c.args.self.now.unit c.if-unit-self.true)));
  quiet = λ first visits. refl;
  reasons = λ first visits offset kind r. (let e = r.is in absurd cc);
}

pub returns-else-unit-self : goal.returns-else-unit-self
returns-else-unit-self g c = record {
  tells = λ first start now visits s.
      damage_heard first c.args.self.now start now visits s c.args.unit c.args.damage.offset c.args.damage.kind
      c.args.self.now.damage
      (sym (ap (λ (b : Bool). option_or c.args.self.now.damage (if b then Some c.args.damage else None))
      (ne_eqb c.args.unit c.args.self.now.unit c.if-unit-self.false)
      ∙ option_or-none c.args.self.now.damage));
  quiet = λ first visits. refl;
  reasons = λ first visits offset kind r. (let e = r.is in absurd cc);
}
