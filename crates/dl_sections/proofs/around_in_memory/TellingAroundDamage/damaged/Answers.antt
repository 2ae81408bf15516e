use Rattle.std.proofs.Common.{refl}
use Rattle.dl_sections.specs.Section.{of_damage}
use Rattle.dl_sections.proofs.TellingVisits.{told_on}
use Rattle.dl_sections.proofs.around_in_memory.TellingAroundDamage.damaged.Goals as goal

pub returns : goal.returns
returns g c = record {
  tells = λ first start now visits s.
      told_on s (of_damage c.args._unit c.args.damage.offset c.args.damage.kind) _ _ (record {
        sink = s.passed.sink;
        offset = s.passed.offset;
        version = s.passed.version;
        nothing = s.passed.nothing;
      }) (c.damaged.ensures first.sink.now _ _ s.hears);
  quiet = λ first visits. refl;
  reasons = λ first visits offset kind refuses. refuses;
}
