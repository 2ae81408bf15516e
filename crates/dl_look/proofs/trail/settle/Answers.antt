use Rattle.std.proofs.Common.{◌≡◌, ◌+◌, ◌&&◌, length, take, drop, get_or, Some, None, arith, sym, ap, ◌∙◌}
use Rattle.std.specs.Prelude.{if◌then◌else◌, nat_le, nat_lt}
use Rattle.std.specs.Option.{option_or}
use Rattle.dl_look.specs.Slots.{slot_number}
use Rattle.dl_look.specs.Ledgers.{answer_upto}
use Rattle.dl_look.specs.Trails.{row_at, start_of, no_stretch}
use Rattle.dl_look.proofs.TrailLemmas.{option_or_assoc, row_at-more, start_within, start_after}
use Rattle.dl_look.proofs.trail.settle.Goals as goal
use Rattle.dl_look.proofs.trail.settle.Goals.{then-i-trail, else-i-trail}

pub loop-i-preserved : goal.loop-i-preserved
loop-i-preserved c =
    let l = c.loop-i in
    let trail = c.args.trail.now in
    let ledger = c.args.ledger.now in
    let give = c.give.ensures in
    let high = elim c.if-i-trail.branch as (λ b. c.if-i-trail.high ≡ start_of (drop (l.i + 1) trail) c.args.end) [
      | then-i-trail w ↦ w.high-is ∙ sym (start_within trail c.args.end (l.i + 1) (omega arith))
      | else-i-trail w ↦ w.high-is ∙ sym (start_after trail c.args.end (l.i + 1) (omega arith))
    ] in
    record {
      sound = give.sound;
      given = λ j lt. (
          let old = answer_upto (length ledger.log.items) ledger (slot_number c.args.slots.now j) in
          let row = get_or trail l.i no_stretch in
          give.given j lt
          ∙ ap (λ o. option_or o (if nat_le row.start j && nat_lt j c.if-i-trail.high then Some row.row else None))
          (l.invariant.given j lt)
          ∙ option_or_assoc old (row_at (take l.i trail) (start_of (drop l.i trail) c.args.end) j)
          (if nat_le row.start j && nat_lt j c.if-i-trail.high then Some row.row else None)
          ∙ ap (λ e. option_or old (option_or (row_at (take l.i trail) (start_of (drop l.i trail) c.args.end) j)
          (if nat_le row.start j && nat_lt j e then Some row.row else None))) high
          ∙ sym (ap (option_or old) (row_at-more trail c.args.end l.i j (omega arith))));
      before = λ limit i le. give.before limit i (omega (arith, l.invariant.grown)) ∙ l.invariant.before limit i le;
      grown = omega (arith, l.invariant.grown);
      sealed = give.sealed ∙ l.invariant.sealed;
      log_room = give.log_room ∙ l.invariant.log_room;
      slots_room = give.slots_room ∙ l.invariant.slots_room;
    }
