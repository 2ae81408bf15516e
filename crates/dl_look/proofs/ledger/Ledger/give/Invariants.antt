use Rattle.std.proofs.Common.{◌≡◌, ◌-◌, vec_capacity}
use Rattle.dl_look.proofs.LedgerLemmas.{Given}
use Rattle.dl_look.proofs.ledger.Ledger.give.Given as goal

abbrev pub invariant-loop-at : goal.invariant-loop-at
invariant-loop-at l = record {
  given : Given l.slots l.fn.self l.self l.low l.high l.at l.row;
  log_room : vec_capacity l.self.log ≡ vec_capacity l.fn.self.log;
  slots_room : vec_capacity l.self.log_slots ≡ vec_capacity l.fn.self.log_slots;
}

abbrev pub decreases-loop-at : goal.decreases-loop-at
decreases-loop-at l = l.high - l.at
