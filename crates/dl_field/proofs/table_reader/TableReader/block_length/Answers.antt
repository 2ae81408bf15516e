use Rattle.std.proofs.Common.{◌≡◌, ℕ, List, [], ◌∷◌, ◌++◌, length, refl, sym, arith, ap, ◌∙◌}
use Rattle.dl_num.specs.Fixed.{fixed}
use Rattle.dl_field.specs.declared.value_phase.ValuePhase.TheVariants as value
use Rattle.dl_field.proofs.PairLemmas.{table_at}
use Rattle.dl_field.proofs.BlockLemmas.{length_of}
use Rattle.dl_field.proofs.FieldCells.{fixed_unbegun}
use Rattle.dl_field.proofs.BlockSteps.{block_made}
use Rattle.dl_field.proofs.table_reader.TableReader.block_length.Goals as goal

pub returns-in-Ok-clause-made : goal.returns-in-Ok-clause-made
returns-in-Ok-clause-made c = λ next layout rest at.
    let a = table_at c.args.order c.args.self.now _ c.args.format next layout rest c.requires at in
    let w = rest ++ c.args.byte ∷ [] in
    let bytes : _ ≡ w = ap (λ (l : List ℕ). l ++ c.args.byte ∷ []) a.value.1 in
    block_made c.args.order c.args.self.now c.begin_block.new.self c.args.at (value.BlockLength c.args.number)
    c.in-Ok.size c.args.format next layout rest w c.begin_block.result a refl
    (fixed_unbegun a.pair.form _ rest a.value.0 (omega (arith, c.args.number.operand.lacks, ap length a.value.1)))
    (length_of c.args.order a.pair.form _ c.in-Ok.size w a.value.0 (
      ap length (sym bytes) ∙ c.in-Ok.ensures.last,
      c.in-Ok.ensures.whole
          ∙ ap (λ (l : List ℕ). fixed c.args.order l) bytes,
    )) c.begin_block.ensures.begins
