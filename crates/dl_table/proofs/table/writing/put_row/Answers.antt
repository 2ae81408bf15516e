use Rattle.std.proofs.Common.{◌+◌, drop, get_or, take, map, arith}
use Rattle.std.proofs.lemmas.Result.{err_from_is_err_and}
use Rattle.dl_table.specs.Held.{value_held}
use Rattle.dl_table.specs.Written.{entry_bytes, value_bytes}
use Rattle.dl_table.proofs.BuildLemmas.{no_pair}
use Rattle.dl_table.proofs.HeldLemmas.{held_end-le}
use Rattle.dl_table.proofs.WritingLemmas.{TellsOut-piece, IsOut-piece, entry_more, entry_split}
use Rattle.dl_table.proofs.table.writing.put_row.Goals as goal

pub put_held-requires : goal.put_held-requires
put_held-requires g c = omega (arith, held_end-le c.args.held.now c.loop-i.i (omega arith) c.index-held-i.is)

pub returns-in_err-out-clause-written : goal.returns-in_err-out-clause-written
returns-in_err-out-clause-written g c = λ start text h.
    let pairs = c.args.pairs.now in
    let held = c.args.held.now in
    let pool = c.args.pool.now in
    let i = c.loop-i.i in
    let all = map (value_held pool) held in
    let bytes = entry_bytes c.args.encoding.order c.args.encoding.format in
    let p = err_from_is_err_and c.from_residual.result c.from_residual.ensures.1 in
    let tells = c.in_err-out.ensures.written start _ (c.loop-i.invariant start text h) in
    rw (p.1, p.2) (TellsOut-piece start _ text (bytes (take i pairs) (take i all))
    (value_bytes c.args.encoding.order c.args.encoding.format (get_or pairs i no_pair).form
    (value_held pool c.index-held-i.result))
    (bytes (drop (i + 1) pairs) (drop (i + 1) all)) (bytes pairs all) _
    (entry_split c.args.encoding.order c.args.encoding.format pairs pool held i c.loop-i-test.true
    c.requires.whole c.index-held-i.is) tells)

pub loop-i-preserved : goal.loop-i-preserved
loop-i-preserved g c = λ start text h.
    let i = c.loop-i.i in
    let more = entry_more c.args.encoding.order c.args.encoding.format c.args.pairs.now c.args.pool.now c.args.held.now
    i c.loop-i-test.true (omega arith) c.index-held-i.is in
    IsOut-piece start _ text _ _ _ _ more (c.in_ok-out.ensures.written start _ (c.loop-i.invariant start text h))
