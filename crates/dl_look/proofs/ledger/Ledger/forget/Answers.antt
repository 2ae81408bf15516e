use Rattle.std.proofs.Common.{length, arith, ap}
use Rattle.dl_look.specs.declared.ledger.Ledger.{Ledger}
use Rattle.dl_look.proofs.ForgetLemmas.{same_before, whole_sound}
use Rattle.dl_look.proofs.ledger.Ledger.forget.Goals as goal

pub clear_entries-requires-clause-logged : goal.clear_entries-requires-clause-logged
clear_entries-requires-clause-logged c i e is = rw c.as_slice.ensures.value (c.requires.logged i e is)

pub returns-clause-sound : goal.returns-clause-sound
returns-clause-sound c slots numbered sealed sound =
    let old = c.args.self.now in
    let cleared = c.clear_entries.ensures in
    let new : Ledger = record {
      links = c.reopen.new.self;
      entries = c.clear_entries.new.entries;
      log = c.truncate.new.self;
      log_slots = c.truncate-2.new.self;
    } in
    whole_sound old new c.args.whole c.requires.within cleared.left cleared.stays c.truncate.ensures.items slots sealed
    sound c.reopen.ensures.linked c.reopen.ensures.count c.reopen.ensures.open cleared.count
    (omega (arith, cleared.room, ap length c.as_slice.ensures.value)) c.truncate.ensures.capacity
    c.truncate-2.ensures.items c.truncate-2.ensures.capacity

pub returns-clause-before : goal.returns-clause-before
returns-clause-before c =
    let new : Ledger = record {
      links = c.reopen.new.self;
      entries = c.clear_entries.new.entries;
      log = c.truncate.new.self;
      log_slots = c.truncate-2.new.self;
    } in
    same_before c.args.self.now new c.args.whole c.requires.within c.clear_entries.ensures.left
    c.clear_entries.ensures.stays c.truncate.ensures.items
