use Rattle.std.proofs.Common.{◌∙◌}
use Rattle.dl_look.proofs.LedgerLemmas.{given_more}
use Rattle.dl_look.proofs.ledger.Ledger.give.Goals as goal

pub loop-at-preserved : goal.loop-at-preserved
loop-at-preserved c =
    let l = c.loop-at in
    let a = c.answer_slot in
    let f = c.first_open-at-in-loop-at in
    record {
      given = given_more c.args.slots.now c.args.self.now l.self a.new.self c.args.low c.args.high l.at f.result c.args.row.now
          c.requires.numbered l.invariant.given c.loop-at-test.true c.requires.to a.ensures.sound a.ensures.closed
          a.ensures.others a.ensures.given a.ensures.same a.ensures.before a.ensures.grown a.ensures.sealed
          f.new.self f.ensures.linked f.ensures.count f.ensures.same f.ensures.ahead f.ensures.within f.ensures.open
          f.ensures.closed f.ensures.sealed;
      log_room = a.ensures.log_room ∙ l.invariant.log_room;
      slots_room = a.ensures.slots_room ∙ l.invariant.slots_room;
    }
