use Rattle.std.proofs.Common.{◌++◌, ◌∷◌, ◌∙◌, [], Bool, Option, sym, ap}
use Rattle.std.specs.Prelude.{Some, if◌then◌else◌}
use Rattle.std.specs.Option.{option_or}
use Rattle.dl_sections.specs.declared.around.Damage.{Damage}
use Rattle.dl_dump.specs.declared.unit_dumping.UnitDumper.{UnitDumper}
use Rattle.dl_dump.specs.UnitCommand.{first_damage}
use Rattle.dl_dump.proofs.UnitLemmas.{begun_at, damage_visit, option_or-none, quiet_damage, tells_damaged}
use Rattle.dl_dump.proofs.unit_dumping.UnitDumperAroundDamage.damaged.Goals as goal

pub returns-then-self : goal.returns-then-self
returns-then-self g c =
    let old = c.args.self.now in
    let v = damage_visit c.args.unit c.args.damage in
    record {
      tells = λ first start now visits showed.
          tells_damaged showed c.args.unit c.args.damage _
          (ap (λ (u : UnitDumper). record u { damage = c.or-self.result }) c.begin.ensures)
          (c.or-self.ensures ∙ ap (λ (u : UnitDumper). option_or u.damage (Some c.args.damage)) c.begin.ensures
          ∙ sym (ap (λ (is : Bool). option_or old.damage (first_damage ((if is then v ∷ [] else []) ++ [])))
          (sym (ap (λ (u : UnitDumper). u.is_current) c.begin.ensures) ∙ c.if-self.true)));
      quiet = λ first visits. quiet_damage first visits c.args.unit c.args.damage;
      reasons = λ first visits offset kind no. no;
    }

pub returns-else-self : goal.returns-else-self
returns-else-self g c =
    let old = c.args.self.now in
    let v = damage_visit c.args.unit c.args.damage in
    let same = ap (λ (u : UnitDumper). u.damage) c.begin.ensures in
    record {
      tells = λ first start now visits showed.
          tells_damaged showed c.args.unit c.args.damage c.begin.new.self
          (c.begin.ensures ∙ ap (λ (d : Option Damage). record (begun_at old c.args.unit) { damage = d }) (sym same))
          (same ∙ sym (option_or-none old.damage)
          ∙ sym (ap (λ (is : Bool). option_or old.damage (first_damage ((if is then v ∷ [] else []) ++ [])))
          (sym (ap (λ (u : UnitDumper). u.is_current) c.begin.ensures) ∙ c.if-self.false)));
      quiet = λ first visits. quiet_damage first visits c.args.unit c.args.damage;
      reasons = λ first visits offset kind no. no;
    }
