use Rattle.std.proofs.Common.{◌<◌, ◌^◌, ℕ, [], ◌∷◌, ◌++◌, refl, ap, subst, ◌∙◌, arith}
use Rattle.dl_field.specs.declared.value_phase.ValuePhase.TheVariants as value
use Rattle.dl_field.specs.Layout.{value_judged}
use Rattle.dl_field.specs.TableMoves.{BeginsBlock}
use Rattle.dl_field.proofs.PairLemmas.{table_at, same_table, answered_none, answered_ok, answered_err}
use Rattle.dl_field.proofs.ValueFields.{value_field}
use Rattle.dl_field.proofs.BlockLemmas.{leb_length_of, leb_length_open, leb_length_large}
use Rattle.dl_field.specs.TableMoves.{has_bytes}
use Rattle.dl_field.proofs.FieldCells.{leb_unbegun, leb_large_unbegun}
use Rattle.dl_field.proofs.ByteCells.{adds_one, open_field, length_field}
use Rattle.dl_field.proofs.BlockSteps.{block_made}
use Rattle.dl_field.proofs.table_reader.TableReader.leb_block_length.Goals as goal

pub returns-in-None-clause-made : goal.returns-in-None-clause-made
returns-in-None-clause-made c = λ order next layout rest at.
    let a = table_at order c.args.self.now _ c.args.format next layout rest c.requires at in
    let w = rest ++ c.args.byte ∷ [] in
    let took = answered_none _ w _ c.in-None.is (c.push.ensures.answer rest a.value.1) in (
      value_field order c.args.self.now c.args.at (value.LebBlockLength c.args.number) c.args.format next layout rest w
          a ∙ ap value_judged (leb_length_open order c.args.format a.pair.form _ w a.value.0 took),
      record {
        entries = a.entries;
        before = a.before;
        column = a.column;
        pair = a.pair;
        later = a.later;
        at_pair = a.at_pair;
        holds = a.holds;
        summed = a.summed;
        layout_is = a.layout_is;
        value = (a.value.0, took);
      },
    )

pub returns-in-Some-Err-clause-made : goal.returns-in-Some-Err-clause-made
returns-in-Some-Err-clause-made c = λ order next layout rest at.
    let a = table_at order c.args.self.now _ c.args.format next layout rest c.requires at in
    let w = rest ++ c.args.byte ∷ [] in
    let large = answered_err _ w _ c.in-Some-Err.field-0 _ c.in-Some-Err.is c.in-Some-Err.field-0-is
    (c.push.ensures.answer rest a.value.1) in (
      value_field order c.args.self.now c.args.at (value.LebBlockLength c.args.number) c.args.format next layout rest w
          a
          ∙ ap value_judged (leb_length_large order c.args.format a.pair.form w _ a.value.0 large),
      same_table c.args.self.now,
    )

pub returns-in-Some-Ok-clause-made : goal.returns-in-Some-Ok-clause-made
returns-in-Some-Ok-clause-made c = λ order next layout rest at.
    let a = table_at order c.args.self.now _ c.args.format next layout rest c.requires at in
    let w = rest ++ c.args.byte ∷ [] in
    let spelt = answered_ok _ w _ c.in-Some-Ok.field-0 c.in-Some-Ok.size c.in-Some-Ok.is c.in-Some-Ok.field-0-is
    (c.push.ensures.answer rest a.value.1) in
    let small = subst (λ (n : ℕ). n < 2 ^ 64) c.in-Some-Ok.size-is c.begin_block.ensures.small in
    let begins = subst (λ (n : ℕ). BeginsBlock c.args.self.now c.args.at n c.args.format c.begin_block.result
    c.begin_block.new.self) c.in-Some-Ok.size-is c.begin_block.ensures.begins in
    block_made order c.args.self.now c.begin_block.new.self c.args.at (value.LebBlockLength c.args.number)
    c.in-Some-Ok.size c.args.format next layout rest w c.begin_block.result a refl
    (leb_unbegun a.pair.form _ rest a.value.0 a.value.1)
    (leb_length_of order a.pair.form c.in-Some-Ok.size w a.value.0 spelt small) begins

pub returns-in-None-clause-cells : goal.returns-in-None-clause-cells
returns-in-None-clause-cells c = λ order next layout rest at.
    let a = table_at order c.args.self.now _ c.args.format next layout rest c.requires at in
    let w = rest ++ c.args.byte ∷ [] in
    let none = leb_unbegun a.pair.form _ rest a.value.0 a.value.1 in
    let still = leb_unbegun a.pair.form _ w a.value.0
    (answered_none _ w _ c.in-None.is (c.push.ensures.answer rest a.value.1)) in
    omega (
      arith,
      open_field order c.args.self.now c.args.at (value.LebBlockLength c.args.number) c.args.format next
          layout rest w a (ap has_bytes a.value.0) none still,
    )

pub returns-in-Some-Err-clause-cells : goal.returns-in-Some-Err-clause-cells
returns-in-Some-Err-clause-cells c = λ order next layout rest at.
    let a = table_at order c.args.self.now _ c.args.format next layout rest c.requires at in
    let w = rest ++ c.args.byte ∷ [] in
    let none = leb_unbegun a.pair.form _ rest a.value.0 a.value.1 in
    let large = answered_err _ w _ c.in-Some-Err.field-0 _ c.in-Some-Err.is c.in-Some-Err.field-0-is
    (c.push.ensures.answer rest a.value.1) in
    omega (
      arith,
      open_field order c.args.self.now c.args.at (value.LebBlockLength c.args.number) c.args.format next
          layout rest w a (ap has_bytes a.value.0) none (leb_large_unbegun a.pair.form w _ a.value.0 large),
    )

pub returns-in-Some-Ok-clause-cells : goal.returns-in-Some-Ok-clause-cells
returns-in-Some-Ok-clause-cells c = λ order next layout rest at.
    let a = table_at order c.args.self.now _ c.args.format next layout rest c.requires at in
    let w = rest ++ c.args.byte ∷ [] in
    let none = leb_unbegun a.pair.form _ rest a.value.0 a.value.1 in
    let spelt = answered_ok _ w _ c.in-Some-Ok.field-0 c.in-Some-Ok.size c.in-Some-Ok.is c.in-Some-Ok.field-0-is
    (c.push.ensures.answer rest a.value.1) in
    let small = subst (λ (n : ℕ). n < 2 ^ 64) c.in-Some-Ok.size-is c.begin_block.ensures.small in
    let more = length_field order c.args.self.now c.args.at (value.LebBlockLength c.args.number) c.in-Some-Ok.size
    c.args.format next layout rest w a (leb_length_of order a.pair.form c.in-Some-Ok.size w a.value.0 spelt small)
    none in
    adds_one order c.args.self.now c.begin_block.new.self layout rest w c.begin_block.result more
    c.begin_block.ensures.cells
