use Rattle.std.proofs.Common.{◌-◌, [], ◌∷◌, ◌++◌, refl, sym, ap, ◌∙◌, arith}
use Rattle.dl_table.specs.declared.table.held.StoredValue.TheVariants as held
use Rattle.dl_field.specs.declared.value_phase.ValuePhase.TheVariants as value
use Rattle.dl_field.specs.Layout.{value_judged}
use Rattle.dl_field.proofs.PairLemmas.{table_at}
use Rattle.dl_field.proofs.ValueFields.{value_field, value_made, text_goes_on, text_form, no_zero-push, text_held}
use Rattle.dl_field.proofs.ValueLemmas.{text_grown, granted}
use Rattle.dl_field.proofs.table_reader.TableReader.text.Goals as goal

pub returns-then-byte-eq0-clause-made : goal.returns-then-byte-eq0-clause-made
returns-then-byte-eq0-clause-made c = λ order next layout rest at.
    let a = table_at order c.args.self.now _ c.args.format next layout rest c.requires at in
    let w = rest ++ c.args.byte ∷ [] in
    value_made order c.args.self.now c.enter.new.self c.args.at (value.Text c.args.start)
    (held.Text (record { start = c.args.start; len = c.len.result - c.args.start })) c.args.format next layout rest w
    c.enter.result a
    (text_form order c.args.format a.pair.form w _ a.value.0
    (text_held rest c.args.byte c.args.self.now.pool.items c.args.start (c.len.result - c.args.start) a.value.3
    c.if-byte-eq0.true a.value.2 (omega (arith, c.len.ensures, c.args.self.now.pool.ok.0))))
    (omega (arith, c.len.ensures, c.args.self.now.pool.ok.0, a.value.1)) (rw c.new.ensures at c.enter.ensures.made)

pub returns-clause-made : goal.returns-clause-made
returns-clause-made c = λ order next layout rest at.
    let a = table_at order c.args.self.now _ c.args.format next layout rest c.requires at in
    let w = rest ++ c.args.byte ∷ [] in
    let more = no_zero-push rest c.args.byte a.value.3 c.if-byte-eq0.false in (
      value_field order c.args.self.now c.args.at (value.Text c.args.start) c.args.format next layout rest w a
          ∙ ap value_judged (text_form order c.args.format a.pair.form w _ a.value.0 (text_goes_on w more)),
      text_grown order c.args.self.now _ c.args.at c.args.start (c.args.byte ∷ []) c.args.format next layout rest a
          c.requires refl refl
          (granted c.push.result c.push.ensures.items (sym c.is_err.ensures.value ∙ c.if-is_err.false)) more,
    )
