use Rattle.std.proofs.Common.{◌-◌, [], ◌∷◌, ◌++◌, length, drop, refl, sym, ap, ◌∙◌, arith, length-append}
use Rattle.std.proofs.lemmas.List.{length-drop, length-take-le}
use Rattle.dl_table.specs.Held.{value_held}
use Rattle.dl_table.specs.declared.table.held.StoredValue.TheVariants as held
use Rattle.dl_field.specs.Layout.{value_judged}
use Rattle.dl_field.proofs.ListLemmas.{list_at, path_field, path_open, path_text, path_grown, path_made, path_adds}
use Rattle.dl_field.proofs.ValueFields.{no_zero-push, text_held}
use Rattle.dl_field.proofs.ValueLemmas.{granted}
use Rattle.dl_field.proofs.list_reader.ListReader.path.Goals as goal

pub returns-then-byte-ne0-clause-made : goal.returns-then-byte-ne0-clause-made
returns-then-byte-ne0-clause-made c = λ going order format next layout rest at.
    let a = list_at c.args.self.now _ format next layout rest c.requires at in
    let w = rest ++ c.args.byte ∷ [] in
    let more = no_zero-push rest c.args.byte a.no_zero c.if-byte-ne0.true in (
      path_field order c.args.self.now c.args.start format next layout rest w a ∙ path_open _ w more,
      path_grown c.args.self.now _ c.args.start c.args.byte format next layout rest a refl refl refl
          (granted c.push.result c.push.ensures.items (sym c.is_err.ensures.value ∙ c.if-is_err.false)) more
          c.requires,
    )

pub returns-clause-made : goal.returns-clause-made
returns-clause-made c = λ going order format next layout rest at.
    let a = list_at c.args.self.now _ format next layout rest c.requires at in
    let w = rest ++ c.args.byte ∷ [] in
    let pool = c.args.self.now.pool.items in
    let full = c.len.ensures ∙ c.args.self.now.pool.ok.0 in
    path_made order c.args.self.now c.enter.new.self c.args.start c.numbers-left.result
    (held.Text (record { start = c.args.start; len = c.len.result - c.args.start })) format next layout rest w
    c.enter.result a
    (omega (
      arith,
      c.if-len-eq0.false,
      full,
      length-drop c.args.start pool,
      ap length a.rest_is,
      length-append rest (c.args.byte ∷ []),
    ))
    (text_held rest c.args.byte pool c.args.start (c.len.result - c.args.start) a.no_zero c.if-byte-ne0.false a.rest_is
    (omega (arith, full))) (omega (arith, full, a.start_is)) (omega (arith, full, a.start_is)) c.numbers-left.ensures
    (rw c.new.ensures at c.enter.ensures.made)

pub returns-clause-cells : goal.returns-clause-cells
returns-clause-cells c = λ going order format next layout rest at.
    let a = list_at c.args.self.now _ format next layout rest c.requires at in
    let w = rest ++ c.args.byte ∷ [] in
    let pool = c.args.self.now.pool.items in
    let full = c.len.ensures ∙ c.args.self.now.pool.ok.0 in
    let len = c.len.result - c.args.start in
    let size = length-drop c.args.start pool in
    path_adds order c.args.self.now c.enter.new.self c.args.start
    (value_held pool (held.Text (record { start = c.args.start; len = len }))) format next layout rest w c.enter.result a
    (path_field order c.args.self.now c.args.start format next layout rest w a
    ∙ path_text _ w (omega (
      arith,
      c.if-len-eq0.false,
      full,
      size,
      ap length a.rest_is,
      length-append rest (c.args.byte ∷ []),
    ))
    ∙ ap value_judged (text_held rest c.args.byte pool c.args.start len a.no_zero c.if-byte-ne0.false a.rest_is
    (omega (arith, full))))
    (omega (arith, length-take-le len (drop c.args.start pool) (omega (arith, size, full)), full, size, ap length a.rest_is))
    c.enter.ensures.cells (returns-clause-made c going order format next layout rest at)
