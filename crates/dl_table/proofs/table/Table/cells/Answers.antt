use Rattle.std.proofs.Common.{ap, arith, ◌∙◌}
use Rattle.std.specs.List.{sum_by}
use Rattle.dl_table.specs.TableCells.{table_cells}
use Rattle.dl_table.specs.Held.{cells_held}
use Rattle.dl_table.proofs.RowLemmas.{cells_table}
use Rattle.dl_table.proofs.table.Table.cells.Goals as goal

pub returns : goal.returns
returns c =
    let t = c.self.inside in
    let values = ap (sum_by cells_held) c.as_slice.ensures.value in
    let pairs = c.len.ensures ∙ t.pairs.ok.0 in
    let cells = cells_table t.format t.pairs.items t.values.items t.pool.items c.self.invariant.within
    c.self.invariant.whole in
    let seen = ap table_cells c.self.view_is in
    omega arith
