use Rattle.std.proofs.Common.{sym, ◌∙◌, ap}
use Rattle.dl_table.specs.TableData.{TableData}
use Rattle.dl_table.proofs.EqualLemmas.{table_of-same, values-same}
use Rattle.dl_table.proofs.table.Table.is_same.Goals as goal

pub returns-then-has_same_pairs : goal.returns-then-has_same_pairs
returns-then-has_same_pairs c =
    let s = c.self.inside in
    let t = c.other.inside in
    let parts = c.has_same_pairs.ensures.0 c.if-has_same_pairs.true in
    let format = ap (λ (d : TableData). d.format) c.self.view_is ∙ parts.0
    ∙ ap (λ (d : TableData). d.format) (sym c.other.view_is) in
    let pairs = ap (λ (d : TableData). d.pairs) c.self.view_is ∙ parts.1
    ∙ ap (λ (d : TableData). d.pairs) (sym c.other.view_is) in
    let lent = rw (
      c.as_slice.ensures.value,
      c.as_slice-then-has_same_pairs.ensures.value,
      c.as_slice-then-has_same_pairs-2.ensures.value,
      c.as_slice-then-has_same_pairs-3.ensures.value,
    ) at
    c.same_values.ensures in (
      λ r. sym c.self.view_is ∙ table_of-same s.pool.items t.pool.items s.values.items t.values.items s.format t.format
          s.pairs.items t.pairs.items format pairs (lent.0 r) ∙ c.other.view_is,
      λ e. lent.1 (values-same s.pool.items t.pool.items s.values.items t.values.items s.format t.format s.pairs.items
          t.pairs.items c.self.invariant.whole c.other.invariant.whole (c.self.view_is ∙ e ∙ sym c.other.view_is)),
    )
