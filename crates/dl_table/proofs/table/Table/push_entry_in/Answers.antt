use Rattle.std.proofs.Common.{ℕ, List, ◌<◌, ◌∷◌, [], ◌++◌, length, map, ap, sym, ◌∙◌, arith}
use Rattle.std.proofs.lemmas.Bool.{eqb-false}
use Rattle.dl_table.specs.declared.table.held.StoredValue.{StoredValue}
use Rattle.dl_table.specs.TableData.{TableData}
use Rattle.dl_table.specs.Held.{value_lent, table_of}
use Rattle.dl_table.proofs.BuildLemmas.{values_counted, nothing_wrong}
use Rattle.dl_table.proofs.RowLemmas.{whole-push, table_of-push}
use Rattle.dl_table.proofs.SoundLemmas.{sound_push}
use Rattle.dl_table.proofs.table.Table.push_entry_in.Goals as goal
use Rattle.dl_table.proofs.table.Table.push_entry_in.Goals.{then-is_err-via-then-is_err}
use Rattle.dl_table.proofs.table.Table.push_entry_in.Goals.{then-is_err-via-else-is_err+then-is_err-2}

pub invariant_of-self-2 : goal.invariant_of-self-2
invariant_of-self-2 g c =
    let t = c.self.inside in
    let new = map value_lent c.args.values.now in
    let each = values_counted t.format t.pairs.items _ new _ c.as_slice.ensures.value c.wrong_value.ensures
    c.in_default.is in
    let held = rw (c.reserve.ensures.items, c.reserve-else-is_err.ensures.items) at c.hold_all.ensures.values in
    let not_zero = eqb-false _ _ (sym c.is_empty.ensures ∙ c.if-is_empty.false) in
    let some : 0 < length t.pairs.items = omega (arith, t.pairs.ok.0, not_zero) in
    let right = nothing_wrong t.format t.pairs.items _ new _ c.as_slice.ensures.value c.wrong_value.ensures
    c.in_default.is in
    record {
      within = c.hold_all.ensures.within;
      whole = whole-push t.pairs.items t.values.items c.hold_all.new.held.items t.pool.items c.hold_all.new.pool.items
          new c.self.invariant.whole each held;
      few = c.self.invariant.few;
      sound = sound_push t.format t.pairs.items t.values.items c.hold_all.new.held.items t.pool.items
          c.hold_all.new.pool.items new some c.self.invariant.whole each held (omega arith) right
          c.self.invariant.sound;
    }

pub returns-clause-added : goal.returns-clause-added
returns-clause-added g c =
    let t = c.self.inside in
    let new = map value_lent c.args.values.now in
    let each = values_counted t.format t.pairs.items _ new _ c.as_slice.ensures.value c.wrong_value.ensures
    c.in_default.is in
    let held = rw (c.reserve.ensures.items, c.reserve-else-is_err.ensures.items) at c.hold_all.ensures.values in
    let not_zero = eqb-false _ _ (sym c.is_empty.ensures ∙ c.if-is_empty.false) in
    let some : 0 < length t.pairs.items = omega (arith, t.pairs.ok.0, not_zero) in
    table_of-push t.format t.pairs.items t.values.items c.hold_all.new.held.items t.pool.items c.hold_all.new.pool.items
    new some c.self.invariant.whole each held
    ∙ ap (λ (d : TableData). record d { entries = d.entries ++ new ∷ [] }) c.self.view_is

pub returns-then-is_err-clause-unchanged : goal.returns-then-is_err-clause-unchanged
returns-then-is_err-clause-unchanged g c = elim c.then-is_err.branch [
  | then-is_err-via-then-is_err w ↦ w.self-is ∙ ap
      (λ (v : List StoredValue). table_of c.self.inside.format c.self.inside.pairs.items v c.self.inside.pool.items)
      c.reserve.ensures.items ∙ c.self.view_is
  | then-is_err-via-else-is_err+then-is_err-2 w ↦
      w.self-is ∙ ap (λ (v : List StoredValue). table_of c.self.inside.format c.self.inside.pairs.items v
      w.reserve-else-is_err.new.list.items) c.reserve.ensures.items
      ∙ ap (λ (pool : List ℕ). table_of c.self.inside.format c.self.inside.pairs.items c.self.inside.values.items pool)
      w.reserve-else-is_err.ensures.items ∙ c.self.view_is
]
