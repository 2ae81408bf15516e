use Rattle.std.proofs.Common.{◌+◌, ◌*◌, ◌/◌, ◌<◌, ◌++◌, [], length, drop, take, map, ap, ◌∙◌, arith}
use Rattle.std.specs.List.{flat_map}
use Rattle.std.proofs.lemmas.List.{take_all}
use Rattle.std.proofs.lemmas.Result.{err_from_is_err_and}
use Rattle.dl_table.specs.Held.{table_of, value_held, values_end}
use Rattle.dl_table.specs.Written.{entry_bytes}
use Rattle.dl_table.proofs.HeldLemmas.{length-rows, values_end-take, values_end-drop}
use Rattle.dl_table.proofs.SpelledLemmas.{row_at}
use Rattle.dl_table.proofs.WritingLemmas.{TellsOut-piece, IsOut-piece, IsOut-same, parts_more, parts_split}
use Rattle.dl_table.proofs.table.writing.put_rows.Goals as goal

pub put_row-requires-clause-within : goal.put_row-requires-clause-within
put_row-requires-clause-within g c =
    let values = c.args.values.now in
    let width = length c.args.pairs.now in
    let first = values_end-take (drop (c.loop-i.i * width) values) width in
    let rest = values_end-drop values (c.loop-i.i * width) in
    let held = ap values_end c.row-held.ensures in
    omega arith

pub returns-in_err-out-clause-written : goal.returns-in_err-out-clause-written
returns-in_err-out-clause-written g c = λ start text h.
    let pairs = c.args.pairs.now in
    let width = length pairs in
    let count = length c.args.values.now / width in
    let all = map (value_held c.args.pool.now) c.args.values.now in
    let entries = (table_of c.args.encoding.format pairs c.args.values.now c.args.pool.now).entries in
    let bytes = entry_bytes c.args.encoding.order c.args.encoding.format pairs in
    let i = c.loop-i.i in
    let turn : i < length entries = omega (arith, length-rows count width all) in
    let row = row_at count width c.args.pool.now c.args.values.now i c.row-held.result.now (omega arith)
    c.row-held.ensures in
    let split = parts_split bytes entries i [] turn in
    let p = err_from_is_err_and c.from_residual.result c.from_residual.ensures.1 in
    let tells = c.in_err-out.ensures.written start _ (c.loop-i.invariant start text h) in
    rw (p.1, p.2) (TellsOut-piece start _ text (flat_map bytes (take i entries))
    (bytes (map (value_held c.args.pool.now) c.row-held.result.now)) (flat_map bytes (drop (i + 1) entries))
    (flat_map bytes entries) _
    (split ∙ ap (λ vs. flat_map bytes (take i entries) ++ bytes vs ++ flat_map bytes (drop (i + 1) entries)) row)
    tells)

pub loop-i-preserved : goal.loop-i-preserved
loop-i-preserved g c = λ start text h.
    let pairs = c.args.pairs.now in
    let width = length pairs in
    let count = length c.args.values.now / width in
    let all = map (value_held c.args.pool.now) c.args.values.now in
    let entries = (table_of c.args.encoding.format pairs c.args.values.now c.args.pool.now).entries in
    let bytes = entry_bytes c.args.encoding.order c.args.encoding.format pairs in
    let i = c.loop-i.i in
    let turn : i < length entries = omega (arith, length-rows count width all) in
    let row = row_at count width c.args.pool.now c.args.values.now i c.row-held.result.now (omega arith)
    c.row-held.ensures in
    let more = parts_more bytes entries i [] turn ∙ ap (λ vs. flat_map bytes (take i entries) ++ bytes vs) row in
    IsOut-piece start _ text _ _ _ _ more (c.in_ok-out.ensures.written start _ (c.loop-i.invariant start text h))

pub returns-clause-written : goal.returns-clause-written
returns-clause-written g c = λ start text h.
    let pairs = c.args.pairs.now in
    let width = length pairs in
    let count = length c.args.values.now / width in
    let entries = (table_of c.args.encoding.format pairs c.args.values.now c.args.pool.now).entries in
    let whole = take_all c.loop-i.i entries
    (omega (arith, length-rows count width (map (value_held c.args.pool.now) c.args.values.now))) in
    IsOut-same start _ text _ _ _ (ap (flat_map (entry_bytes c.args.encoding.order c.args.encoding.format pairs))
    whole)
    (c.loop-i.invariant start text h)
