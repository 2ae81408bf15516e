use Rattle.std.proofs.Common.{◌<◌, ◌^◌, ℕ, [], ◌∷◌, ◌++◌, ap, subst, ◌∙◌, arith}
use Rattle.dl_field.specs.declared.value_phase.ValuePhase.TheVariants as value
use Rattle.dl_table.specs.Value.{number}
use Rattle.dl_field.specs.Layout.{value_judged}
use Rattle.dl_field.proofs.PairLemmas.{table_at, same_table, answered_none, answered_ok, answered_err}
use Rattle.dl_field.proofs.ValueFields.{value_field, value_made, leb_goes_on, leb_too_large, leb_form, leb_held}
use Rattle.dl_field.proofs.table_reader.TableReader.leb.Goals as goal

pub returns-in-None-clause-made : goal.returns-in-None-clause-made
returns-in-None-clause-made c = λ order next layout rest at.
    let a = table_at order c.args.self.now _ c.args.format next layout rest c.requires at in
    let w = rest ++ c.args.byte ∷ [] in
    let took = answered_none _ w _ c.in-None.is (c.push.ensures.answer rest a.value.1) in (
      value_field order c.args.self.now c.args.at (value.Leb c.args.number) c.args.format next layout rest w a
          ∙ ap value_judged (leb_form order c.args.format a.pair.form w _ a.value.0 (leb_goes_on _ w took)),
      record {
        entries = a.entries;
        before = a.before;
        column = a.column;
        pair = a.pair;
        later = a.later;
        at_pair = a.at_pair;
        holds = a.holds;
        summed = a.summed;
        layout_is = a.layout_is;
        value = (a.value.0, took);
      },
    )

pub returns-in-Some-Err-clause-made : goal.returns-in-Some-Err-clause-made
returns-in-Some-Err-clause-made c = λ order next layout rest at.
    let a = table_at order c.args.self.now _ c.args.format next layout rest c.requires at in
    let w = rest ++ c.args.byte ∷ [] in
    let large = answered_err _ w _ c.in-Some-Err.field-0 _ c.in-Some-Err.is c.in-Some-Err.field-0-is
    (c.push.ensures.answer rest a.value.1) in (
      value_field order c.args.self.now c.args.at (value.Leb c.args.number) c.args.format next layout rest w a
          ∙ ap value_judged (leb_form order c.args.format a.pair.form w _ a.value.0 (leb_too_large w _ large)),
      same_table c.args.self.now,
    )

pub returns-in-Some-Ok-clause-made : goal.returns-in-Some-Ok-clause-made
returns-in-Some-Ok-clause-made c = λ order next layout rest at.
    let a = table_at order c.args.self.now _ c.args.format next layout rest c.requires at in
    let w = rest ++ c.args.byte ∷ [] in
    let spelt = answered_ok _ w _ c.in-Some-Ok.field-0 c.in-Some-Ok.number c.in-Some-Ok.is c.in-Some-Ok.field-0-is
    (c.push.ensures.answer rest a.value.1) in
    let held = c.held_number.ensures.value c.args.self.now.pool.items
    ∙ ap (λ (n : ℕ). number n) c.in-Some-Ok.number-is in
    let small = subst (λ (n : ℕ). n < 2 ^ 64) c.in-Some-Ok.number-is c.held_number.ensures.small in
    value_made order c.args.self.now c.enter.new.self c.args.at (value.Leb c.args.number) c.held_number.result
    c.args.format next layout rest w c.enter.result a
    (leb_form order c.args.format a.pair.form w _ a.value.0 (leb_held w _ _ spelt small held))
    (omega (arith, c.held_number.ensures.cell)) c.enter.ensures.made
