use Rattle.std.proofs.Common.{◌∷◌, ◌++◌, [], ℕ, subst}
use Rattle.dl_field.specs.TableMoves.{TakesContent}
use Rattle.dl_field.proofs.PairLemmas.{table_at, same_table, answered_none, answered_ok, answered_err, content_within}
use Rattle.dl_field.proofs.PairLemmas.{content_bad, content_made}
use Rattle.dl_field.proofs.table_reader.TableReader.content_code.Goals as goal

pub returns-in-None-clause-made : goal.returns-in-None-clause-made
returns-in-None-clause-made c = λ order format next layout rest at.
    let a = table_at order c.args.self.now _ format next layout rest c.requires at in
    let took = answered_none _ (rest ++ c.args.byte ∷ []) _ c.in-None.is (c.push.ensures.answer rest a.2) in (
      content_within order _ _ layout (rest ++ c.args.byte ∷ []) a.1 took,
      (record { values = a.0.values; pool = a.0.pool }, a.1, took, a.3),
    )

pub returns-in-Some-Err-clause-made : goal.returns-in-Some-Err-clause-made
returns-in-Some-Err-clause-made c = λ order format next layout rest at.
    let a = table_at order c.args.self.now _ format next layout rest c.requires at in (
      content_bad order _ layout (rest ++ c.args.byte ∷ []) _ a.1
          (answered_err _ (rest ++ c.args.byte ∷ []) _ c.in-Some-Err.field-0 _ c.in-Some-Err.is c.in-Some-Err.field-0-is
          (c.push.ensures.answer rest a.2)),
      same_table c.args.self.now,
    )

pub returns-in-Some-Ok-clause-made : goal.returns-in-Some-Ok-clause-made
returns-in-Some-Ok-clause-made c = λ order format next layout rest at.
    let a = table_at order c.args.self.now _ format next layout rest c.requires at in
    let spelt = answered_ok _ (rest ++ c.args.byte ∷ []) _ c.in-Some-Ok.field-0 c.in-Some-Ok.content c.in-Some-Ok.is
    c.in-Some-Ok.field-0-is (c.push.ensures.answer rest a.2) in
    let takes = subst (λ (n : ℕ). TakesContent c.args.self.now c.args.left n c.take_content.result
    c.take_content.new.self) c.in-Some-Ok.content-is c.take_content.ensures.made in
    content_made order format next c.args.self.now c.take_content.new.self c.args.left c.in-Some-Ok.content _ layout
    (rest ++ c.args.byte ∷ []) a.1 a.0 a.3 spelt takes
