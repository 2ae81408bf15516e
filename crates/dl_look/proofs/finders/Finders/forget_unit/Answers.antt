use Rattle.std.proofs.Common.{arith, refl, sym, ap, ◌∙◌}
use Rattle.dl_look.specs.Ledgers.{answer_upto}
use Rattle.dl_look.specs.Slots.{slot_place, slot_number}
use Rattle.dl_look.specs.Units.{answer_of_units}
use Rattle.dl_look.proofs.ForgetLemmas.{closed_after}
use Rattle.dl_look.proofs.LedgerLemmas.{option_or-none}
use Rattle.dl_look.proofs.finders.Finders.forget_unit.Goals as goal

pub forget-requires-clause-closed : goal.forget-requires-clause-closed
forget-requires-clause-closed c =
    let f = c.args.self.now in
    closed_after f.slots.items f.ledger f.whole f.numbered f.sound f.sealed f.ended

pub returns-clause-stand : goal.returns-clause-stand
returns-clause-stand c places units rows st =
    let f = c.args.self.now in
    let slots = f.slots.items in
    let new = c.forget.new.self in
    record {
      slots = st.slots;
      answers =
          λ j lt. ap (λ n. answer_upto n new (slot_number slots j)) c.forget.ensures.count
          ∙ c.forget.ensures.before f.whole (slot_number slots j) (omega arith) ∙ st.ended j lt
          ∙ sym (option_or-none (answer_of_units units (slot_place slots j)));
      ended = λ j lt. c.forget.ensures.before f.whole (slot_number slots j) (omega arith) ∙ st.ended j lt;
      earlier =
          λ front last is j lt. c.forget.ensures.before f.before (slot_number slots j) (omega (arith, f.earlier))
          ∙ st.earlier front last is j lt;
      kept = refl;
    }
