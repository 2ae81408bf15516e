use Rattle.std.proofs.Common.{◌≡◌, length, set, Some, arith, ap}
use Rattle.std.specs.Vec.{with_item}
use Rattle.dl_look.specs.Slots.{slot_number}
use Rattle.dl_look.proofs.LedgerLemmas.{one_left, slot_left, one_more, one_given}
use Rattle.dl_look.proofs.ledger.Ledger.answer_slot.Goals as goal

pub push_reserved-requires : goal.push_reserved-requires
push_reserved-requires c =
    omega (
      arith,
      c.args.self.now.log.ok.0,
      one_left c.args.slots.now c.args.self.now c.args.at c.requires.numbered c.requires.sound c.requires.within
          c.requires.open,
    )

pub push_reserved-requires-2 : goal.push_reserved-requires-2
push_reserved-requires-2 c =
    omega (
      arith,
      c.args.self.now.log_slots.ok.0,
      slot_left c.args.slots.now c.args.self.now c.args.at c.requires.numbered c.requires.sound c.requires.within
          c.requires.open,
    )

pub returns-clause-sound : goal.returns-clause-sound
returns-clause-sound c =
    let count : c.len.result ≡ length c.args.self.now.log.items = omega (arith, c.args.self.now.log.ok.0) in
    let entries = ap (λ n. set c.args.self.now.entries.items (slot_number c.args.slots.now c.args.at) (Some n)) count in
    one_more c.args.slots.now c.args.self.now _ c.args.at c.args.row.now c.requires.numbered c.requires.sound
    c.requires.within c.requires.open c.close.ensures.linked c.close.ensures.count c.close.ensures.closed
    c.close.ensures.same entries c.push_reserved.ensures.items c.push_reserved.ensures.capacity
    c.push_reserved-2.ensures.items c.push_reserved-2.ensures.capacity

pub returns-clause-given : goal.returns-clause-given
returns-clause-given c =
    let count : c.len.result ≡ length c.args.self.now.log.items = omega (arith, c.args.self.now.log.ok.0) in
    let entries = ap (λ n. set c.args.self.now.entries.items (slot_number c.args.slots.now c.args.at) (Some n)) count in
    one_given c.args.slots.now c.args.self.now (record {
      links = c.close.new.self;
      entries =
          with_item c.args.self.now.entries (slot_number c.args.slots.now c.args.at) (Some c.len.result);
      log =
          c.push_reserved.new.self;
      log_slots =
          c.push_reserved-2.new.self;
    }) c.args.at c.args.row.now c.requires.numbered c.requires.sound c.requires.within
    c.requires.open c.close.ensures.linked c.close.ensures.count c.close.ensures.closed c.close.ensures.same entries
    c.push_reserved.ensures.items c.push_reserved.ensures.capacity
    c.push_reserved-2.ensures.items c.push_reserved-2.ensures.capacity
