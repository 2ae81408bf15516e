use Rattle.std.proofs.Common.{ap, ◌∙◌}
use Rattle.dl_table.specs.Written.{table_bytes}
use Rattle.dl_table.proofs.WritingLemmas.{Written-same, table_parts-is}
use Rattle.dl_table.proofs.table.Table.write.Goals as goal

pub returns-clause-written : goal.returns-clause-written
returns-clause-written g c = λ start text h.
    let t = c.self.inside in
    let parts = table_parts-is c.args.order t.format t.pairs.items t.values.items t.pool.items
    ∙ ap (table_bytes c.args.order) c.self.view_is in
    let written = rw (c.as_slice.ensures.value, c.as_slice-2.ensures.value, c.as_slice-3.ensures.value) at
    c.put_table.ensures.written in
    Written-same start _ text _ _ c.put_table.result parts (written start text h)
