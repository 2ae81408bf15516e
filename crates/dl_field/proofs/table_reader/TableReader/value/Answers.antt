use Rattle.std.proofs.Common.{[], ◌∷◌, ◌++◌, ap, ◌∙◌}
use Rattle.dl_field.specs.declared.value_phase.ValuePhase.{ValuePhase}
use Rattle.dl_field.specs.declared.value_phase.ValuePhase.TheVariants as value
use Rattle.dl_field.specs.declared.table_reader.TablePhase.TheVariants as phase
use Rattle.dl_field.proofs.PairLemmas.{table_at}
use Rattle.dl_field.specs.TableMoves.{has_bytes}
use Rattle.dl_field.proofs.FieldCells.{number_no_bytes}
use Rattle.dl_field.proofs.ByteCells.{adds_one, adds_value, text_field, block_field}
use Rattle.dl_field.proofs.table_reader.TableReader.value.Goals as goal

pub returns-in-Number-clause-cells : goal.returns-in-Number-clause-cells
returns-in-Number-clause-cells c = λ next layout rest at.
    let a = table_at c.args.order c.args.self.now _ c.args.format next layout rest
    (c.requires ∙ ap (λ (v : ValuePhase). phase.Value c.args.at v) c.in-Number.is) at in
    adds_value c.args.order c.args.self.now c.number.new.self c.args.at
    (value.Number c.in-Number.form c.in-Number.number) c.args.format next layout rest (rest ++ c.args.byte ∷ [])
    c.number.result a
    (number_no_bytes c.args.format a.pair.form _ a.value.1) (c.number.ensures.made next layout rest at)
    c.number.ensures.cells

pub returns-in-Leb-clause-cells : goal.returns-in-Leb-clause-cells
returns-in-Leb-clause-cells c = λ next layout rest at.
    let a = table_at c.args.order c.args.self.now _ c.args.format next layout rest
    (c.requires ∙ ap (λ (v : ValuePhase). phase.Value c.args.at v) c.in-Leb.is) at in
    adds_value c.args.order c.args.self.now c.leb.new.self c.args.at (value.Leb c.in-Leb.number) c.args.format next
    layout rest (rest ++ c.args.byte ∷ []) c.leb.result a
    (ap has_bytes a.value.0) (c.leb.ensures.made c.args.order next layout rest at) c.leb.ensures.cells

pub returns-in-Data16-clause-cells : goal.returns-in-Data16-clause-cells
returns-in-Data16-clause-cells c = λ next layout rest at.
    let a = table_at c.args.order c.args.self.now _ c.args.format next layout rest
    (c.requires ∙ ap (λ (v : ValuePhase). phase.Value c.args.at v) c.in-Data16.is) at in
    adds_value c.args.order c.args.self.now c.data16.new.self c.args.at (value.Data16 c.in-Data16.sixteen) c.args.format
    next layout rest (rest ++ c.args.byte ∷ []) c.data16.result a
    (ap has_bytes a.value.0) (c.data16.ensures.made c.args.order next layout rest at) c.data16.ensures.cells

pub returns-in-Text-clause-cells : goal.returns-in-Text-clause-cells
returns-in-Text-clause-cells c = λ next layout rest at.
    let a = table_at c.args.order c.args.self.now _ c.args.format next layout rest
    (c.requires ∙ ap (λ (v : ValuePhase). phase.Value c.args.at v) c.in-Text.is) at in
    adds_one c.args.order c.args.self.now c.text.new.self layout rest (rest ++ c.args.byte ∷ []) c.text.result
    (text_field c.args.order c.args.self.now c.args.at (value.Text c.in-Text.start) c.args.format next layout rest
    (c.args.byte ∷ []) a a.value.0) c.text.ensures.cells

pub returns-in-Block-clause-cells : goal.returns-in-Block-clause-cells
returns-in-Block-clause-cells c = λ next layout rest at.
    let a = table_at c.args.order c.args.self.now _ c.args.format next layout rest
    (c.requires ∙ ap (λ (v : ValuePhase). phase.Value c.args.at v) c.in-Block.is) at in
    adds_one c.args.order c.args.self.now c.block.new.self layout rest (rest ++ c.args.byte ∷ []) c.block.result
    (block_field c.args.order c.args.self.now c.args.at c.in-Block.left c.args.format next layout rest c.args.byte a)
    c.block.ensures.cells
