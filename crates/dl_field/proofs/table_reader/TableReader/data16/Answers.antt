use Rattle.std.proofs.Common.{ℕ, List, [], ◌∷◌, ◌++◌, ap, ◌∙◌, arith}
use Rattle.dl_table.specs.declared.table.held.StoredValue.TheVariants as held
use Rattle.dl_field.specs.declared.value_phase.ValuePhase.TheVariants as value
use Rattle.dl_field.proofs.PairLemmas.{table_at}
use Rattle.dl_field.proofs.ValueFields.{value_made, sixteen_spelt}
use Rattle.dl_field.proofs.table_reader.TableReader.data16.Goals as goal

pub returns-in-Ok-clause-made : goal.returns-in-Ok-clause-made
returns-in-Ok-clause-made c = λ order next layout rest at.
    let a = table_at order c.args.self.now _ c.args.format next layout rest c.requires at in
    let w = rest ++ c.args.byte ∷ [] in
    let bytes = c.in-Ok.ensures.whole ∙ ap (λ (l : List ℕ). l ++ c.args.byte ∷ []) a.value.1 in
    value_made order c.args.self.now c.enter.new.self c.args.at (value.Data16 c.args.sixteen)
    (held.Data16 c.in-Ok.bytes) c.args.format next layout rest w c.enter.result a
    (sixteen_spelt order c.args.format a.pair.form w _ c.args.self.now.pool.items a.value.0 bytes c.in-Ok.ensures.size)
    (omega arith) c.enter.ensures.made
