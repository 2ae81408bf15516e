use Rattle.std.proofs.Common.{ℕ, ◌-◌, List, length, Ok, ap, arith, refl, sym}
use Rattle.dl_num.proofs.LebFrontLemmas.{true_false}
use Rattle.dl_rows.proofs.UnitBodyFeeds.{tells_in, feeds_row, feeds_nothing, fails_overrun, fails_bad}
use Rattle.dl_rows.proofs.HeardLemmas.{goes_on, heard_in, no_opening_paused, no_row_paused}
use Rattle.dl_rows.proofs.unit_body.UnitBody.feed.Goals.{else-self-eq0-via-then-self-eq0+else-not-is_between}
use Rattle.dl_rows.proofs.unit_body.UnitBody.feed.Goals.{else-self-eq0-via-else-self-eq0}
use Rattle.dl_rows.proofs.unit_body.UnitBody.feed.Goals as goal

pub returns-in-Row-clause-fed : goal.returns-in-Row-clause-fed
returns-in-Row-clause-fed g c b before first is hears =
    let t = tells_in {S = g.row.S.Denot} {story = g.S.OperationSink.story first} is c.args.piece.now (sym c.params.ensures.value)
    c.front-bytes.ensures (λ i lt. omega (arith, c.type_inv.piece i))
    (λ d fits bytes stands. c.in-Row.ensures.given d before first fits bytes stands hears) in
    let size = ap (λ (w : List ℕ). length w - length c.in-Row.tail.now) c.front-bytes.ensures in
    record {
      rows = t.rows;
      used = _;
      fed = (refl, feeds_row is t.gives size (record { taken = c.count.ensures.taken; left = c.count.ensures.left }));
      heard = heard_in is t size (record { rows = refl; late = refl; sink = λ items stands. stands });
    }

pub returns-in-Refuses-clause-fed : goal.returns-in-Refuses-clause-fed
returns-in-Refuses-clause-fed g c b before first is hears =
    let t = tells_in {S = g.row.S.Denot} {story = g.S.OperationSink.story first} is c.args.piece.now (sym c.params.ensures.value)
    c.front-bytes.ensures (λ i lt. omega (arith, c.type_inv.piece i))
    (λ d fits bytes stands. c.in-Refuses.ensures.given d before first fits bytes stands hears) in
    let size = ap (λ (w : List ℕ). length w - length c.in-Refuses.tail.now) c.front-bytes.ensures in
    record {
      rows = t.rows;
      used = _;
      fed = fails_bad is t.gives size
          (record { taken = c.count-in-Refuses.ensures.taken; left = c.count-in-Refuses.ensures.left })
          c.fault-in-Refuses.ensures;
      heard = heard_in is t size (record { rows = refl; late = refl; sink = λ items stands. stands });
    }

pub returns-then-not-is_between-clause-fed : goal.returns-then-not-is_between-clause-fed
returns-then-not-is_between-clause-fed g c b before first is hears =
    let t = tells_in {S = g.row.S.Denot} {story = g.S.OperationSink.story first} is c.args.piece.now (sym c.params.ensures.value)
    c.front-bytes.ensures (λ i lt. omega (arith, c.type_inv.piece i))
    (λ d fits bytes stands. c.in-Nothing.ensures.given d before first fits bytes stands hears) in
    record {
      rows = t.rows;
      used = _;
      fed = fails_overrun is t.gives c.front-bytes.ensures
          (record { taken = c.count-in-Nothing.ensures.taken; left = c.count-in-Nothing.ensures.left })
          c.if-self-eq0.true
          (λ none. true_false ((c.is_between.ensures.rest c.args.dialect.order c.args.header.now.params _ t.gives.stands).1 none)
          c.if-not-is_between.true) c.fault.ensures;
      heard = heard_in is t (omega arith) (record { rows = refl; late = refl; sink = λ items stands. stands });
    }

pub returns-else-self-eq0-clause-fed : goal.returns-else-self-eq0-clause-fed
returns-else-self-eq0-clause-fed g c b before first is hears =
    let t = tells_in {S = g.row.S.Denot} {story = g.S.OperationSink.story first} is c.args.piece.now (sym c.params.ensures.value)
    c.front-bytes.ensures (λ i lt. omega (arith, c.type_inv.piece i))
    (λ d fits bytes stands. c.in-Nothing.ensures.given d before first fits bytes stands hears) in
    let none = no_row_paused c.pause.result.event c.pause.ensures.pause in
    record {
      rows = t.rows;
      used = _;
      fed = (
        refl,
        feeds_nothing is t.gives c.front-bytes.ensures c.pause.ensures.used
            (rw c.pause.ensures.used c.pause.ensures.event)
            (record { taken = c.count-in-Nothing.ensures.taken; left = c.count-in-Nothing.ensures.left })
            (λ none. elim c.else-self-eq0.branch [
              | else-self-eq0-via-then-self-eq0+else-not-is_between
                  w ↦ (w.is_between.ensures.rest c.args.dialect.order c.args.header.now.params _ t.gives.stands).0
                  w.if-not-is_between.false
              | else-self-eq0-via-else-self-eq0 w ↦ absurd (w.if-self-eq0.false none)
            ]),
      );
      heard = heard_in is t (omega (arith, c.pause.ensures.used, ap length c.front-bytes.ensures)) (record {
        rows = none;
        late = no_opening_paused c.pause.result.event c.pause.ensures.pause;
        sink = goes_on (g.S.OperationSink.story first) c.push.new.sink (Ok c.pause.result) none;
      });
    }
