use Rattle.std.proofs.Common.{ℕ, ◌*◌, ◌/◌, List, length, map, ap, sym, ◌∙◌, take, drop, Some, arith}
use Rattle.dl_table.specs.declared.table.Pair.{Pair}
use Rattle.dl_table.specs.declared.table.held.StoredValue.{StoredValue}
use Rattle.dl_table.specs.TableData.{TableData}
use Rattle.dl_table.specs.EntryData.{with_content}
use Rattle.dl_table.specs.Held.{value_held, values_end}
use Rattle.dl_table.proofs.HeldLemmas.{length-rows, values_end-take, values_end-drop}
use Rattle.dl_table.proofs.RowLemmas.{entry_at}
use Rattle.dl_table.proofs.table.Table.entry.Goals as goal

pub row-held-requires : goal.row-held-requires
row-held-requires c =
    let t = c.self.inside in
    let count = length t.values.items / length t.pairs.items in
    let all = c.len.ensures ∙ ap (λ (d : TableData). length d.entries) (sym c.self.view_is)
    ∙ length-rows count (length t.pairs.items) (map (value_held t.pool.items) t.values.items) in
    let same = ap (λ (xs : List StoredValue). length xs / c.len-2.result) c.as_slice.ensures.value
    ∙ ap (λ (n : ℕ). length t.values.items / n) (c.len-2.ensures ∙ t.pairs.ok.0) in
    omega arith

pub new-requires : goal.new-requires
new-requires c =
    let xs = c.as_slice.result.now in
    let start = c.args.i * c.len-2.result in
    let a = values_end-take (drop start xs) c.len-2.result in
    let b = values_end-drop xs start in
    let d = ap values_end c.row-held.ensures in
    let e = ap values_end c.as_slice.ensures.value in
    let p = c.as_slice-3.ensures.len in
    let i = c.self.invariant.within in
    omega arith

pub returns : goal.returns
returns c =
    let t = c.self.inside in
    let held = c.row-held.ensures ∙ ap
    (λ (xs : List StoredValue). take c.len-2.result (drop (c.args.i * c.len-2.result) xs)) c.as_slice.ensures.value
    ∙ ap (λ (n : ℕ). take n (drop (c.args.i * n) t.values.items)) (c.len-2.ensures ∙ t.pairs.ok.0) in
    let lent = c.new.ensures ∙ ap (λ (ps : List Pair). with_content ps
    (map (value_held c.as_slice-3.result.now) c.row-held.result.now)) c.as_slice-2.ensures.value
    ∙ ap (λ (pool : List ℕ). with_content t.pairs.items (map (value_held pool) c.row-held.result.now))
    c.as_slice-3.ensures.value
    ∙ ap (λ (xs : List StoredValue). with_content t.pairs.items (map (value_held t.pool.items) xs)) held in
    ap (λ items. Some items) lent
    ∙ sym (entry_at t.format t.pairs.items t.values.items t.pool.items c.args.self.now c.args.i c.self.view_is
    (omega arith))
