use Rattle.std.proofs.Common.{◌≡◌, ℕ, ◌<◌, [], length, arith, sym, ap, ap₂, subst, ◌∙◌}
use Rattle.std.specs.Option.{option_or}
use Rattle.dl_look.specs.declared.finders.SequenceStage.TheVariants.{Start, Passed, Open}
use Rattle.dl_look.specs.Answer.{place_of, is_at_most}
use Rattle.dl_look.specs.FinderRows.{unended}
use Rattle.dl_look.specs.Ledgers.{answer_upto}
use Rattle.dl_look.specs.Slots.{slot_number, slot_place}
use Rattle.dl_look.specs.Trails.{row_at}
use Rattle.dl_look.proofs.MoreRows.{unended-push_end}
use Rattle.dl_look.proofs.FindersLemmas.{kept_in, rows_more, rising_more, falls, split_seen, no_answer_at_end}
use Rattle.dl_look.proofs.FindersLemmas.{answers_at_end, none_at_end, not_alone, not_fallen}
use Rattle.dl_look.proofs.finders.Finders.end_sequence.Goals as goal

pub returns-then-is_at_most-clause-stand : goal.returns-then-is_at_most-clause-stand
returns-then-is_at_most-clause-stand c places units rows st =
    let f = c.args.self.now in
    let slots = f.slots.items in
    let seen = c.as_slice-slots.ensures.value in
    let r = c.args.row.now in
    let s = unended rows in
    let last = c.in-Open.last in
    let end = c.in-Open.end in
    let passed = c.pass-end.ensures in
    let settled = c.settle.ensures in
    let a = kept_in slots f.trail.items s f.state (Open last end) c.in-Open.is st.kept in
    let rises = ap₂ is_at_most (sym c.of.ensures) (sym c.of-place.ensures) ∙ sym c.if-is_at_most.ensures in
    let split =
    split_seen slots c.as_slice-slots.result.now c.of-place.result (place_of r) c.pass-end.result seen
    c.of-place.ensures passed.split in
    let more =
    rows_more slots f.trail.items c.pass-end.new.trail.items last end c.pass-end.result s a r rises split
    passed.rows in
    let rising =
    rising_more slots f.trail.items c.pass-end.new.trail.items last end c.pass-end.result s a r rises split
    passed.rows in
    let new = c.settle.new.ledger in
    let given =
    subst (λ l. (j : ℕ) → j < length l
    → answer_upto (length new.log.items) new (slot_number l j)
    ≡ option_or (answer_upto (length f.ledger.log.items) f.ledger (slot_number l j))
    (row_at c.as_slice.result.now c.pass-end.result j)) seen settled.given in
    record {
      slots = st.slots;
      answers = λ j lt. given j lt
          ∙ ap (λ o. option_or o (row_at c.as_slice.result.now c.pass-end.result j)) (st.answers j lt)
          ∙ answers_at_end units rows r (slot_place slots j) (row_at c.as_slice.result.now c.pass-end.result j)
          c.requires rising (ap (λ l. row_at l c.pass-end.result j) c.as_slice.ensures.value ∙ more j lt);
      ended = λ j lt. settled.before f.whole (slot_number slots j) f.ended ∙ st.ended j lt;
      earlier =
          λ front back is j lt. settled.before f.before (slot_number slots j) (omega (arith, f.earlier, f.ended))
          ∙ st.earlier front back is j lt;
      kept = unended-push_end [] rows r c.requires;
    }

pub returns-else-is_at_most-clause-stand : goal.returns-else-is_at_most-clause-stand
returns-else-is_at_most-clause-stand c places units rows st =
    let f = c.args.self.now in
    let slots = f.slots.items in
    let r = c.args.row.now in
    let a = kept_in slots f.trail.items (unended rows) f.state (Open c.in-Open.last c.in-Open.end) c.in-Open.is
    st.kept in
    let fallen =
    falls slots f.trail.items c.in-Open.last c.in-Open.end (unended rows) a r
    (ap₂ is_at_most (sym c.of.ensures) (sym c.of-place.ensures) ∙ sym c.if-is_at_most.ensures) in
    record {
      slots = st.slots;
      answers =
          λ j lt. st.answers j lt
          ∙ no_answer_at_end units rows r (slot_place slots j) c.requires
          (not_fallen (unended rows) r (slot_place slots j) fallen);
      ended = st.ended;
      earlier = st.earlier;
      kept = unended-push_end [] rows r c.requires;
    }

pub returns-in-Passed-clause-stand : goal.returns-in-Passed-clause-stand
returns-in-Passed-clause-stand c places units rows st =
    let f = c.args.self.now in
    let slots = f.slots.items in
    let r = c.args.row.now in
    let passed = kept_in slots f.trail.items (unended rows) f.state Passed c.in-Passed.is st.kept in
    record {
      slots = st.slots;
      answers =
          λ j lt. st.answers j lt
          ∙ no_answer_at_end units rows r (slot_place slots j) c.requires
          (none_at_end slots (unended rows) r j lt passed);
      ended = st.ended;
      earlier = st.earlier;
      kept = unended-push_end [] rows r c.requires;
    }

pub returns-in-Start-clause-stand : goal.returns-in-Start-clause-stand
returns-in-Start-clause-stand c places units rows st =
    let f = c.args.self.now in
    let slots = f.slots.items in
    let r = c.args.row.now in
    let none = kept_in slots f.trail.items (unended rows) f.state Start c.in-Start.is st.kept in
    record {
      slots = st.slots;
      answers =
          λ j lt. st.answers j lt
          ∙ no_answer_at_end units rows r (slot_place slots j) c.requires
          (not_alone (unended rows) r (slot_place slots j) none);
      ended = st.ended;
      earlier = st.earlier;
      kept = unended-push_end [] rows r c.requires;
    }
