use Rattle.std.proofs.Common.{[], refl, arith, take}
use Rattle.std.proofs.lemmas.Result.{err_from_is_err_and}
use Rattle.dl_emit.proofs.GatherLemmas.{gone_more, gone_part, gone_all}
use Rattle.dl_emit.proofs.unit.write_program.Goals as goal

pub loop-row-init : goal.loop-row-init
loop-row-init g c = record {
  fits = omega arith;
  gone = λ start text h. record {
    done = [];
    gathered =
        record { front = text; whole = refl; out = h };
    whole = refl;
  };
}

pub returns-in_err-out-clause-written : goal.returns-in_err-out-clause-written
returns-in_err-out-clause-written g c = λ start text h.
    let gone = c.loop-row.invariant.gone start text h in
    let p = err_from_is_err_and c.from_residual.result c.from_residual.ensures.1 in
    rw (p.1, p.2) (gone_part c.args.order c.args.params.now c.args.rows.now start _ text _ gone.done _ gone.whole
    (c.in_err-out.ensures.written start _ gone.gathered))

pub loop-row-preserved : goal.loop-row-preserved
loop-row-preserved g c = record {
  fits = omega (arith, c.put_row-held.ensures.end, c.in_ok-out.ensures.room);
  gone = λ start text h.
      let gone = c.loop-row.invariant.gone start text h in
      rw c.keep.ensures
      (gone_more c.args.order c.args.params.now c.args.rows.now start _ text
      (take c.make_room.new.held c.loop-row.buffer) _ (take c.put_row-held.result c.put_row-held.new.buffer) gone.done
      c.in_ok-out.out c.loop-row.row-index _ c.loop-row.before c.loop-row-test.true refl c.put_row-held.ensures.put
      gone.whole (c.in_ok-out.ensures.written start _ gone.gathered));
}

pub returns-clause-written : goal.returns-clause-written
returns-clause-written g c = λ start text h.
    let gone = c.loop-row.invariant.gone start text h in
    gone_all c.args.order c.args.params.now c.args.rows.now start _ _ text (take c.loop-row.held c.loop-row.buffer)
    c.loop-row.out c.loop-row.row-index c.loop-row.before c.put.result c.loop-row-test.false gone
    (c.put.ensures.written start gone.gathered.front gone.gathered.out)
