use Rattle.std.proofs.Common.{◌∷◌, ◌++◌, [], ℕ, subst}
use Rattle.dl_field.specs.TableMoves.{TakesForm}
use Rattle.dl_field.proofs.PairLemmas.{table_at, same_table, answered_none, answered_ok, answered_err, form_within}
use Rattle.dl_field.proofs.PairLemmas.{form_range, form_made}
use Rattle.dl_field.proofs.table_reader.TableReader.form_code.Goals as goal

pub returns-in-None-clause-made : goal.returns-in-None-clause-made
returns-in-None-clause-made c = λ order format next layout rest at.
    let a = table_at order c.args.self.now _ format next layout rest c.requires at in
    let took = answered_none _ (rest ++ c.args.byte ∷ []) _ c.in-None.is (c.push.ensures.answer rest a.2) in (
      form_within order _ _ layout (rest ++ c.args.byte ∷ []) a.1 took,
      (record { values = a.0.values; pool = a.0.pool }, a.1, took, a.3),
    )

pub returns-in-Some-Err-clause-made : goal.returns-in-Some-Err-clause-made
returns-in-Some-Err-clause-made c = λ order format next layout rest at.
    let a = table_at order c.args.self.now _ format next layout rest c.requires at in (
      form_range order _ layout (rest ++ c.args.byte ∷ []) _ a.1
          (answered_err _ (rest ++ c.args.byte ∷ []) _ c.in-Some-Err.field-0 _ c.in-Some-Err.is c.in-Some-Err.field-0-is
          (c.push.ensures.answer rest a.2)),
      same_table c.args.self.now,
    )

pub returns-in-Some-Ok-clause-made : goal.returns-in-Some-Ok-clause-made
returns-in-Some-Ok-clause-made c = λ order format next layout rest at.
    let a = table_at order c.args.self.now _ format next layout rest c.requires at in
    let spelt = answered_ok _ (rest ++ c.args.byte ∷ []) _ c.in-Some-Ok.field-0 c.in-Some-Ok.code c.in-Some-Ok.is
    c.in-Some-Ok.field-0-is (c.push.ensures.answer rest a.2) in
    let takes = subst (λ (n : ℕ). TakesForm c.args.self.now c.args.left c.args.content n c.take_form.result
    c.take_form.new.self) c.in-Some-Ok.code-is c.take_form.ensures.made in
    form_made order format next c.args.self.now c.take_form.new.self c.args.left c.args.content c.in-Some-Ok.code _
    layout (rest ++ c.args.byte ∷ []) a.1 a.0 a.3 spelt takes
