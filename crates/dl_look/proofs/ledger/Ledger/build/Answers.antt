use Rattle.std.proofs.Common.{length, get_or, None, arith, sym, ap, ◌∙◌}
use Rattle.std.specs.Prelude.{is_none}
use Rattle.std.proofs.lemmas.List.{length-replicate}
use Rattle.dl_look.proofs.LedgerLemmas.{unanswered-replicate, none-replicate}
use Rattle.dl_look.specs.Slots.{slot_number}
use Rattle.dl_look.specs.Ledgers.{unanswered}
use Rattle.dl_look.proofs.ledger.Ledger.build.Goals as goal

pub returns-clause-sound : goal.returns-clause-sound
returns-clause-sound g c =
    let n = length c.args.slots.now in
    let all = c.in_ok-entries.ensures.entries in
    let empty = c.in_ok-log.ensures.items in
    let none = c.in_ok-log_slots.ensures.items in
    record {
      linked = c.in_ok-links.ensures.linked;
      links = c.in_ok-links.ensures.count;
      count = ap length all ∙ length-replicate n None;
      «open» =
          λ j lt. (c.in_ok-links.ensures.open j (omega arith)
          ∙ sym (ap is_none (ap (λ l. get_or l (slot_number c.args.slots.now j) None) all
          ∙ none-replicate n (slot_number c.args.slots.now j))));
      logged = λ i e h. absurd (let z = ap (λ l. get_or l i None) all ∙ none-replicate n i in cc);
      kept = λ e lt. absurd (let z = ap length empty in omega arith);
      room = let z = ap length empty in let u = ap unanswered all ∙ unanswered-replicate n in omega arith;
      capacity = omega (arith, c.in_ok-log.ensures.capacity);
      log_slots = ap length none ∙ sym (ap length empty);
      within = λ e lt. absurd (let z = ap length empty in omega arith);
      slot = λ e lt. absurd (let z = ap length empty in omega arith);
      slots_capacity = omega (arith, c.in_ok-log_slots.ensures.capacity);
    }
