use Rattle.dl_dump.specs.Dumping.{style_of}
use Rattle.dl_sections.specs.DamageTold.{damages_told}
use Rattle.dl_dump.proofs.ShowingLemmas.{shown_damage, tells_damage}
use Rattle.dl_dump.proofs.dumping.DumperAroundDamage.damaged.Goals as goal

pub returns : goal.returns
returns g c = record {
  tells = λ first start now visits showed. tells_damage showed c.damaged.new.self c.args._unit c.args.damage
      (c.damaged.ensures first.damages.now (damages_told visits) showed.heard);
  quiet = λ first visits. shown_damage (style_of first) first.at visits c.args._unit c.args.damage.offset c.args.damage.kind;
  reasons = λ first visits offset kind no. no;
}
