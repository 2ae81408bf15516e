use Rattle.std.proofs.Common.{◌∙◌, ◌∷◌, ℕ, List, [], sym, subst, append-nil}
use Rattle.std.proofs.lemmas.List.Concat.{flat_map-append}
use Rattle.dl_print.specs.Output.{HasPrinted}
use Rattle.dl_sections.specs.declared.around.Damage.{Damage}
use Rattle.dl_sections.specs.DamageTold.{damage_of_visit, damages_told}
use Rattle.dl_sections.specs.Section.{of_damage}
use Rattle.dl_dump.specs.RangeDumping.{HasSequence, style_held}
use Rattle.dl_dump.specs.RangeText.{Sequence, before_sequences, range_text}
use Rattle.dl_dump.proofs.RangeLemmas.{range-append, sequence-append}
use Rattle.dl_dump.proofs.range_dumping.RangeDumperAroundDamage.damaged.Goals as goal

pub returns : goal.returns
returns g c = record {
  tells = λ first start now visits ranged.
      let v = of_damage c.args._unit c.args.damage.offset c.args.damage.kind in
      record {
        style = ranged.style;
        damages = ranged.damages;
        heard = subst (λ (l : List Damage). g.D.DamageSink.hears first.damages.now c.damaged.new.self l)
            (sym (flat_map-append damage_of_visit visits (v ∷ [])))
            (c.damaged.ensures first.damages.now (damages_told visits) ranged.heard);
        memory = ranged.memory;
        range = ranged.range;
        has = subst (λ (s : Sequence). HasSequence g.M.Memory.refuses
            (record c.args.self.now { damages = record c.args.self.now.damages { now = c.damaged.new.self } }) s)
            (sym (sequence-append (style_held first) first.range before_sequences visits (v ∷ []))) (record {
              at = ranged.has.at;
              unit = ranged.has.unit;
              whole = ranged.has.whole;
              refused = ranged.has.refused;
            });
        printed = subst (λ (l : List ℕ). HasPrinted start now l c.args.self.now.printer.now)
            (sym (range-append (style_held first) first.range before_sequences visits (v ∷ [])
            ∙ append-nil (range_text (style_held first) first.range visits))) ranged.printed;
      };
  quiet = λ first visits.
      let v = of_damage c.args._unit c.args.damage.offset c.args.damage.kind in
      range-append (style_held first) first.range before_sequences visits (v ∷ [])
      ∙ append-nil (range_text (style_held first) first.range visits);
  reasons = λ first visits offset kind no. let e = no.0 in absurd cc;
}
