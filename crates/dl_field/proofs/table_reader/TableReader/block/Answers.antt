use Rattle.std.proofs.Common.{◌-◌, refl, sym, ◌∙◌, arith}
use Rattle.dl_field.proofs.PairLemmas.{table_at}
use Rattle.dl_field.proofs.ValueLemmas.{granted, denied}
use Rattle.dl_field.proofs.ByteCells.{block_field}
use Rattle.dl_field.proofs.BlockSteps.{block_within, block_ends}
use Rattle.dl_field.proofs.table_reader.TableReader.block.Goals as goal

pub returns-then-left-le1-clause-made : goal.returns-then-left-le1-clause-made
returns-then-left-le1-clause-made c = λ order next layout rest at.
    let a = table_at order c.args.self.now _ c.args.format next layout rest c.requires at in
    block_ends order c.args.self.now c.end_value.new.self c.push.new.list.items c.args.at c.args.left c.args.byte
    c.args.format next layout rest a c.if-left-le1.true c.end_value.ensures.goes
    (granted c.push.result c.push.ensures.items (sym c.is_err.ensures.value ∙ c.if-is_err.false))

pub returns-clause-made : goal.returns-clause-made
returns-clause-made c = λ order next layout rest at.
    let a = table_at order c.args.self.now _ c.args.format next layout rest c.requires at in
    block_within order c.args.self.now _ c.args.at c.args.left (c.args.left - 1) c.args.byte c.args.format next layout
    rest a (omega (arith, c.if-left-le1.false)) refl refl refl refl
    (granted c.push.result c.push.ensures.items (sym c.is_err.ensures.value ∙ c.if-is_err.false))

pub returns-then-is_err-clause-made : goal.returns-then-is_err-clause-made
returns-then-is_err-clause-made c = λ order next layout rest at.
    let a = table_at order c.args.self.now _ c.args.format next layout rest c.requires at in
    let same = denied c.push.result c.push.ensures.kept (sym c.is_err.ensures.value ∙ c.if-is_err.true) in (
      record { phase = refl; pairs = refl; values = refl; pool = same },
      omega (
        arith,
        block_field order c.args.self.now c.args.at c.args.left c.args.format next layout rest c.args.byte
            a,
      ),
    )
