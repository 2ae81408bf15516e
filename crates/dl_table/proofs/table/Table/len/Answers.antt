use Rattle.std.proofs.Common.{ℕ, ◌/◌, length, map, ap, ◌∙◌, sym}
use Rattle.dl_table.specs.TableData.{TableData}
use Rattle.dl_table.specs.Held.{value_held}
use Rattle.dl_table.proofs.HeldLemmas.{length-rows}
use Rattle.dl_table.proofs.table.Table.len.Goals as goal

pub returns : goal.returns
returns c =
    let t = c.self.inside in
    let values = c.len.ensures ∙ t.values.ok.0 in
    let pairs = c.len-2.ensures ∙ t.pairs.ok.0 in
    c.whole_rows.ensures.rows
    ∙ ap (λ (n : ℕ). n / c.len-2.result) values ∙ ap (λ (n : ℕ). length t.values.items / n) pairs
    ∙ sym (length-rows (length t.values.items / length t.pairs.items) (length t.pairs.items)
    (map (value_held t.pool.items) t.values.items))
    ∙ ap (λ (d : TableData). length d.entries) c.self.view_is
