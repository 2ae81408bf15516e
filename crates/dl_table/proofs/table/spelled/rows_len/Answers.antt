use Rattle.std.proofs.Common.{◌*◌, ◌/◌, ◌<◌, [], length, take, drop, map, ap, sym, ◌∙◌, arith}
use Rattle.std.proofs.lemmas.List.{take-map, drop-map}
use Rattle.dl_num.specs.declared.fixed.Order.TheVariants.{Little}
use Rattle.dl_table.specs.Held.{table_of, value_held, values_end}
use Rattle.dl_table.specs.Written.{entry_bytes}
use Rattle.dl_table.proofs.HeldLemmas.{length-rows, values_end-take, values_end-drop}
use Rattle.dl_table.proofs.SpelledLemmas.{parts_from, parts_end, get_or-rows}
use Rattle.dl_table.proofs.table.spelled.rows_len.Goals as goal

pub row_len-requires-clause-within : goal.row_len-requires-clause-within
row_len-requires-clause-within c =
    let values = c.args.values.now in
    let width = length c.args.pairs.now in
    let first = values_end-take (drop (c.loop-i.i * width) values) width in
    let rest = values_end-drop values (c.loop-i.i * width) in
    let held = ap values_end c.row-held.ensures in
    omega arith

pub loop-i-preserved : goal.loop-i-preserved
loop-i-preserved c =
    let pairs = c.args.pairs.now in
    let width = length pairs in
    let count = length c.args.values.now / width in
    let all = map (value_held c.args.pool.now) c.args.values.now in
    let entries = (table_of c.args.format pairs c.args.values.now c.args.pool.now).entries in
    let within : c.loop-i.i < count = omega arith in
    let turn : c.loop-i.i < length entries = omega (arith, length-rows count width all) in
    let row = get_or-rows count width all c.loop-i.i [] within
    ∙ ap (take width) (drop-map (value_held c.args.pool.now) (c.loop-i.i * width) c.args.values.now)
    ∙ take-map (value_held c.args.pool.now) width (drop (c.loop-i.i * width) c.args.values.now)
    ∙ ap (map (value_held c.args.pool.now)) (sym c.row-held.ensures) in
    let len = ap (λ vs. length (entry_bytes Little c.args.format pairs vs)) row in
    let step = parts_from (entry_bytes Little c.args.format pairs) entries c.loop-i.i [] turn in
    record { fits = omega arith; same = omega arith }

pub returns : goal.returns
returns c =
    let pairs = c.args.pairs.now in
    let all = map (value_held c.args.pool.now) c.args.values.now in
    let count = length c.args.values.now / length pairs in
    let entries = (table_of c.args.format pairs c.args.values.now c.args.pool.now).entries in
    let none = parts_end (entry_bytes Little c.args.format pairs) entries c.loop-i.i
    (omega (arith, length-rows count (length pairs) all)) in
    omega arith
