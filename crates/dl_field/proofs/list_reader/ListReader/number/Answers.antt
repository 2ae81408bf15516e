use Rattle.std.proofs.Common.{◌<◌, ◌^◌, ℕ, [], ◌∷◌, ◌++◌, ap, subst, ◌∙◌, arith, refl}
use Rattle.dl_table.specs.Value.{number}
use Rattle.dl_field.specs.declared.field_step.FieldStep.TheVariants as byte_makes
use Rattle.dl_field.specs.Layout.{value_judged}
use Rattle.dl_field.proofs.PairLemmas.{answered_none, answered_ok, answered_err}
use Rattle.dl_field.proofs.ValueFields.{leb_goes_on, leb_too_large, leb_held}
use Rattle.dl_field.proofs.ListLemmas.{list_at, same_list, number_field, number_made, number_open, number_adds}
use Rattle.dl_field.proofs.list_reader.ListReader.number.Goals as goal

pub returns-in-None-clause-made : goal.returns-in-None-clause-made
returns-in-None-clause-made c = λ going order format next layout rest at.
    let a = list_at c.args.self.now _ format next layout rest c.requires at in
    let w = rest ++ c.args.byte ∷ [] in
    let took = answered_none _ w _ c.in-None.is (c.push.ensures.answer rest a.took) in (
      number_field order c.args.self.now c.args.left c.args.number format next layout rest w a
          ∙ ap value_judged (leb_goes_on _ w took),
      record {
        none = a.none;
        entries = a.entries;
        before = a.before;
        path = a.path;
        some = a.some;
        place = a.place;
        holds = a.holds;
        summed = a.summed;
        layout_is = a.layout_is;
        took = took;
      },
    )

pub returns-in-None-clause-cells : goal.returns-in-None-clause-cells
returns-in-None-clause-cells c = λ going order format next layout rest at.
    let a = list_at c.args.self.now _ format next layout rest c.requires at in
    let w = rest ++ c.args.byte ∷ [] in
    let took = answered_none _ w _ c.in-None.is (c.push.ensures.answer rest a.took) in
    omega (
      arith,
      number_open order c.args.self.now c.args.left c.args.number format next layout rest w a
          (number_field order c.args.self.now c.args.left c.args.number format next layout rest w a
          ∙ ap value_judged (leb_goes_on _ w took)),
    )

pub returns-in-Some-Err-clause-made : goal.returns-in-Some-Err-clause-made
returns-in-Some-Err-clause-made c = λ going order format next layout rest at.
    let a = list_at c.args.self.now _ format next layout rest c.requires at in
    let w = rest ++ c.args.byte ∷ [] in
    let large = answered_err _ w _ c.in-Some-Err.field-0 _ c.in-Some-Err.is c.in-Some-Err.field-0-is
    (c.push.ensures.answer rest a.took) in (
      number_field order c.args.self.now c.args.left c.args.number format next layout rest w a
          ∙ ap value_judged (leb_too_large w _ large),
      same_list c.args.self.now,
    )

pub returns-in-Some-Err-clause-cells : goal.returns-in-Some-Err-clause-cells
returns-in-Some-Err-clause-cells c = λ going order format next layout rest at.
    let a = list_at c.args.self.now _ format next layout rest c.requires at in
    number_adds order c.args.self.now c.args.self.now c.args.left c.args.number format next layout rest
    (rest ++ c.args.byte ∷ []) (byte_makes.Refuses _) a
    (returns-in-Some-Err-clause-made c going order format next layout rest at) refl

pub returns-in-Some-Ok-clause-made : goal.returns-in-Some-Ok-clause-made
returns-in-Some-Ok-clause-made c = λ going order format next layout rest at.
    let a = list_at c.args.self.now _ format next layout rest c.requires at in
    let w = rest ++ c.args.byte ∷ [] in
    let spelt = answered_ok _ w _ c.in-Some-Ok.field-0 c.in-Some-Ok.number c.in-Some-Ok.is c.in-Some-Ok.field-0-is
    (c.push.ensures.answer rest a.took) in
    let held = c.held_number.ensures.value c.args.self.now.pool.items
    ∙ ap (λ (n : ℕ). number n) c.in-Some-Ok.number-is in
    let small = subst (λ (n : ℕ). n < 2 ^ 64) c.in-Some-Ok.number-is c.held_number.ensures.small in
    number_made order c.args.self.now c.enter.new.self c.args.left _ c.args.number c.held_number.result format next layout
    rest w c.enter.result a (leb_held w _ _ spelt small held) c.held_number.ensures.cell c.held_number.ensures.end
    c.saturating_sub-left.ensures c.enter.ensures.made

pub returns-in-Some-Ok-clause-cells : goal.returns-in-Some-Ok-clause-cells
returns-in-Some-Ok-clause-cells c = λ going order format next layout rest at.
    let a = list_at c.args.self.now _ format next layout rest c.requires at in
    number_adds order c.args.self.now c.enter.new.self c.args.left c.args.number format next layout rest
    (rest ++ c.args.byte ∷ []) c.enter.result a
    (returns-in-Some-Ok-clause-made c going order format next layout rest at) c.enter.ensures.cells
