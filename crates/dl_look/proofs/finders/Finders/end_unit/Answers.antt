use Rattle.std.proofs.Common.{ℕ, ◌<◌, [], ◌∷◌, ◌++◌, length, refl, sym, ap, ◌∙◌}
use Rattle.std.proofs.lemmas.List.{same_from_push}
use Rattle.dl_look.specs.Ledgers.{answer_upto}
use Rattle.dl_look.specs.Slots.{slot_place, slot_number}
use Rattle.dl_look.specs.Units.{answer_of_units}
use Rattle.dl_look.proofs.FindersLemmas.{answer_of_units-push}
use Rattle.dl_look.proofs.ForgetLemmas.{closed_after}
use Rattle.dl_look.proofs.LedgerLemmas.{option_or-none}
use Rattle.dl_look.proofs.finders.Finders.end_unit.Goals as goal

pub seal-requires-clause-closed : goal.seal-requires-clause-closed
seal-requires-clause-closed c =
    let f = c.args.self.now in
    closed_after f.slots.items f.ledger f.whole f.numbered f.sound f.sealed f.ended

pub returns-clause-stand : goal.returns-clause-stand
returns-clause-stand c places units rows st =
    let f = c.args.self.now in
    let slots = f.slots.items in
    let same = c.seal.ensures.answers in
    let new = c.seal.new.self in
    let all = λ (j : ℕ) (lt : j < length slots).
    ap (λ l. answer_upto (length l) new (slot_number slots j)) c.seal.ensures.log
    ∙ same (length f.ledger.log.items) (slot_number slots j) ∙ st.answers j lt in
    record {
      slots = st.slots;
      answers =
          λ j lt. all j lt ∙ sym (option_or-none (answer_of_units (units ++ rows ∷ []) (slot_place slots j))
          ∙ answer_of_units-push units rows (slot_place slots j));
      ended = λ j lt. ap (λ l. answer_upto (length l) new (slot_number slots j)) c.log.ensures ∙ all j lt
          ∙ sym (answer_of_units-push units rows (slot_place slots j));
      earlier =
          λ front last is j lt. same f.whole (slot_number slots j) ∙ st.ended j lt
          ∙ ap (λ us. answer_of_units us (slot_place slots j)) (same_from_push units front rows last is).0;
      kept = refl;
    }
