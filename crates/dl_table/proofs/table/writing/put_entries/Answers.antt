use Rattle.std.proofs.Common.{◌++◌, ap}
use Rattle.std.specs.List.{flat_map}
use Rattle.std.proofs.lemmas.Result.{err_from_is_err_and}
use Rattle.dl_num.specs.Shortest.{shortest_uleb}
use Rattle.dl_table.specs.Held.{table_of}
use Rattle.dl_table.specs.Written.{entry_bytes}
use Rattle.dl_table.proofs.WritingLemmas.{TellsOut-front, Written-same, both_written}
use Rattle.dl_table.proofs.table.writing.put_entries.Goals as goal

pub returns-in_err-out-clause-written : goal.returns-in_err-out-clause-written
returns-in_err-out-clause-written g c = λ start text h.
    let bytes = entry_bytes c.args.encoding.order c.args.encoding.format c.args.pairs.now in
    let table = table_of c.args.encoding.format c.args.pairs.now c.args.values.now c.args.pool.now in
    let count = ap (λ n. shortest_uleb n ++ flat_map bytes table.entries) c.whole_rows-count.ensures.rows in
    let p = err_from_is_err_and c.from_residual.result c.from_residual.ensures.1 in
    let front = TellsOut-front start _ text (shortest_uleb c.whole_rows-count.result) (flat_map bytes table.entries) _
    (c.in_err-out.ensures.written start text h) in
    Written-same start _ text _ _ _ count (rw (p.1, p.2) front)

pub returns-clause-written : goal.returns-clause-written
returns-clause-written g c = λ start text h.
    let bytes = entry_bytes c.args.encoding.order c.args.encoding.format c.args.pairs.now in
    let table = table_of c.args.encoding.format c.args.pairs.now c.args.values.now c.args.pool.now in
    let count = ap (λ n. shortest_uleb n ++ flat_map bytes table.entries) c.whole_rows-count.ensures.rows in
    Written-same start _ text _ _ _ count
    (both_written _ _ _ _ _ _ _ _ c.in_ok-out.ensures.written c.put_rows.ensures.written start text h)
