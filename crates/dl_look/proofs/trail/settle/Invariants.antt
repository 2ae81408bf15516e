use Rattle.std.proofs.Common.{◌≡◌, ℕ, ◌<◌, ◌≤◌, length, take, drop, vec_capacity}
use Rattle.std.specs.Option.{option_or}
use Rattle.dl_look.specs.Slots.{slot_number}
use Rattle.dl_look.specs.Ledgers.{IsSound, answer_upto}
use Rattle.dl_look.specs.Trails.{start_of, row_at}
use Rattle.dl_look.proofs.trail.settle.Given as goal

abbrev pub invariant-loop-i : goal.invariant-loop-i
invariant-loop-i l =
    record {
      sound : IsSound l.slots l.ledger;
      given : (j : ℕ) → j < length l.slots → answer_upto (length l.ledger.log.items) l.ledger (slot_number l.slots j)
          ≡ option_or (answer_upto (length l.fn.ledger.log.items) l.fn.ledger (slot_number l.slots j))
          (row_at (take l.i l.trail) (start_of (drop l.i l.trail) l.end) j);
      before : (limit i : ℕ) → limit ≤ length l.fn.ledger.log.items
          → answer_upto limit l.ledger i ≡ answer_upto limit l.fn.ledger i;
      grown : length l.fn.ledger.log.items ≤ length l.ledger.log.items;
      sealed : l.ledger.links.sealed.items ≡ l.fn.ledger.links.sealed.items;
      log_room : vec_capacity l.ledger.log ≡ vec_capacity l.fn.ledger.log;
      slots_room : vec_capacity l.ledger.log_slots ≡ vec_capacity l.fn.ledger.log_slots;
    }
