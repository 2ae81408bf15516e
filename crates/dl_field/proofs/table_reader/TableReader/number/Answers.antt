use Rattle.std.proofs.Common.{◌≡◌, ◌<◌, ℕ, List, [], ◌∷◌, ◌++◌, Some, length, sym, ap, ◌∙◌, arith}
use Rattle.dl_num.specs.Fixed.{fixed}
use Rattle.dl_field.specs.declared.value_phase.ValuePhase.TheVariants as value
use Rattle.dl_field.specs.Layout.{value_judged}
use Rattle.dl_field.specs.TablePlace.{number_value}
use Rattle.dl_field.proofs.PairLemmas.{table_at}
use Rattle.dl_field.proofs.ValueFields.{value_field, value_made, number_form, number_short, held_spelt}
use Rattle.dl_field.proofs.table_reader.TableReader.number.Goals as goal

pub returns-in-Err-clause-made : goal.returns-in-Err-clause-made
returns-in-Err-clause-made c = λ next layout rest at.
    let a = table_at c.args.order c.args.self.now _ c.args.format next layout rest c.requires at in
    let w = rest ++ c.args.byte ∷ [] in
    let bytes = c.in-Err.ensures.taken ∙ ap (λ (l : List ℕ). l ++ c.args.byte ∷ []) a.value.2 in
    let short : length w < _ = omega (arith, c.in-Err.number.operand.lacks, ap length bytes, c.in-Err.ensures.size) in (
      value_field c.args.order c.args.self.now c.args.at (value.Number c.args.form c.args.number) c.args.format next
          layout rest w a
          ∙ ap value_judged (number_form c.args.order c.args.format a.pair.form _ w a.value.1
          ∙ number_short c.args.order _ (number_value a.pair.form) w short),
      record {
        entries = a.entries;
        before = a.before;
        column = a.column;
        pair = a.pair;
        later = a.later;
        at_pair = a.at_pair;
        holds = a.holds;
        summed = a.summed;
        layout_is = a.layout_is;
        value = (a.value.0, a.value.1 ∙ ap (λ (n : ℕ). Some n) (sym c.in-Err.ensures.size), bytes);
      },
    )

pub returns-in-Ok-clause-made : goal.returns-in-Ok-clause-made
returns-in-Ok-clause-made c = λ next layout rest at.
    let a = table_at c.args.order c.args.self.now _ c.args.format next layout rest c.requires at in
    let w = rest ++ c.args.byte ∷ [] in
    let bytes : _ ≡ w = ap (λ (l : List ℕ). l ++ c.args.byte ∷ []) a.value.2 in
    value_made c.args.order c.args.self.now c.enter.new.self c.args.at (value.Number c.args.form c.args.number)
    c.held_number.result c.args.format next layout rest w c.enter.result a
    (held_spelt c.args.order c.args.format a.pair.form c.args.form _ c.in-Ok.number w c.args.self.now.pool.items
    c.held_number.result a.value.0 a.value.1 (ap length (sym bytes) ∙ c.in-Ok.ensures.last)
    (c.in-Ok.ensures.whole ∙ ap (λ (l : List ℕ). fixed c.args.order l) bytes)
    (c.held_number.ensures.value c.args.self.now.pool.items)) (omega (arith, c.held_number.ensures.cell))
    c.enter.ensures.made
