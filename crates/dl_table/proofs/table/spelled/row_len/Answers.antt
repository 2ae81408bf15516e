use Rattle.std.proofs.Common.{map, arith}
use Rattle.dl_num.specs.declared.fixed.Order.TheVariants.{Little}
use Rattle.dl_table.specs.Held.{value_held}
use Rattle.dl_table.proofs.HeldLemmas.{held_end-le}
use Rattle.dl_table.proofs.SpelledLemmas.{entry_from, entry_end}
use Rattle.dl_table.proofs.table.spelled.row_len.Goals as goal

pub held_len-requires : goal.held_len-requires
held_len-requires c = omega (arith, held_end-le c.args.held.now c.loop-i.i (omega arith) c.index-held-i.is)

pub loop-i-preserved : goal.loop-i-preserved
loop-i-preserved c =
    let step = entry_from Little c.args.format c.args.pairs.now c.args.held.now c.args.pool.now c.loop-i.i
    c.loop-i-test.true (omega arith) c.index-held-i.is in
    record { fits = omega arith; same = omega arith }

pub returns : goal.returns
returns c =
    let none = entry_end Little c.args.format c.args.pairs.now (map (value_held c.args.pool.now) c.args.held.now)
    c.loop-i.i c.loop-i-test.false in
    omega arith
