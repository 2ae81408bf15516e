use Rattle.std.proofs.Common.{◌≡◌, inl, length, arith, refl, [], ◌∷◌, ◌++◌, sym, ap, ◌∙◌}
use Rattle.dl_look.specs.FinderRows.{unended}
use Rattle.dl_look.specs.declared.finders.SequenceStage.TheVariants.{Start, Passed, Open}
use Rattle.dl_look.specs.Answer.{is_at_most}
use Rattle.dl_look.specs.Slots.{slot_place}
use Rattle.dl_look.proofs.FindersLemmas.{kept_in, keeps_above, keeps_begun, keeps_on, keeps_fallen, keeps_passed, same_answer}
use Rattle.dl_look.proofs.finders.Finders.go_on.Goals as goal

pub returns-then-end-len-clause-stand : goal.returns-then-end-len-clause-stand
returns-then-end-len-clause-stand c places units rows st =
    let f = c.args.self.now in
    let slots = f.slots.items in
    let seen = c.as_slice.ensures.value in
    let none = kept_in slots f.trail.items (unended rows) f.state Start c.in-Start.is st.kept in
    let all : c.first_not_below-end.result ≡ length c.as_slice.result.now =
    omega (arith, f.slots.ok.0, ap length seen, c.if-end-len.true, c.len.ensures) in
    record {
      slots = st.slots;
      answers = λ j lt. st.answers j lt ∙ same_answer units rows c.args.row.now (slot_place slots j) c.requires;
      ended = st.ended;
      earlier = st.earlier;
      kept = keeps_above slots c.as_slice.result.now seen rows c.args.row.now c.args.row.now refl c.requires
          c.of-place.result c.of-place.ensures c.first_not_below-end.result none all c.first_not_below-end.ensures.below;
    }

pub returns-else-end-len-clause-stand : goal.returns-else-end-len-clause-stand
returns-else-end-len-clause-stand c places units rows st =
    let f = c.args.self.now in
    let slots = f.slots.items in
    let none = kept_in slots f.trail.items (unended rows) f.state Start c.in-Start.is st.kept in
    record {
      slots = st.slots;
      answers = λ j lt. st.answers j lt ∙ same_answer units rows c.args.row.now (slot_place slots j) c.requires;
      ended = st.ended;
      earlier = st.earlier;
      kept = keeps_begun slots c.as_slice.result.now c.as_slice.ensures.value rows c.args.row.now c.kept.result
          c.kept.ensures c.requires c.of-place.result c.of-place.ensures c.clear.new.self.items
          c.first_not_below-end.result none c.clear.ensures.items c.first_not_below-end.ensures.below
          c.first_not_below-end.ensures.rest;
    }

pub returns-in-Open-clause-stand : goal.returns-in-Open-clause-stand
returns-in-Open-clause-stand c places units rows st =
    let f = c.args.self.now in
    let slots = f.slots.items in
    let a = kept_in slots f.trail.items (unended rows) f.state (Open c.in-Open.last c.in-Open.end) c.in-Open.is
    st.kept in
    let rises = ap (λ p. is_at_most p c.of-place.result) (sym c.of.ensures) ∙ sym c.if-is_at_most.ensures in
    record {
      slots = st.slots;
      answers = λ j lt. st.answers j lt ∙ same_answer units rows c.args.row.now (slot_place slots j) c.requires;
      ended = st.ended;
      earlier = st.earlier;
      kept = keeps_on slots c.as_slice-in-Open.result.now c.as_slice-in-Open.ensures.value rows c.args.row.now
          c.kept-in-Open.result c.kept-in-Open.ensures c.requires c.of-place.result c.of-place.ensures f.trail.items
          c.pass.new.trail.items c.in-Open.last c.in-Open.end c.pass.result a rises c.pass.ensures.split
          c.pass.ensures.rows;
    }

pub returns-in-Open-2-clause-stand : goal.returns-in-Open-2-clause-stand
returns-in-Open-2-clause-stand c places units rows st =
    let f = c.args.self.now in
    let slots = f.slots.items in
    let a = kept_in slots f.trail.items (unended rows) f.state (Open c.in-Open.last c.in-Open.end) c.in-Open.is
    st.kept in
    record {
      slots = st.slots;
      answers = λ j lt. st.answers j lt ∙ same_answer units rows c.args.row.now (slot_place slots j) c.requires;
      ended = st.ended;
      earlier = st.earlier;
      kept = inl (keeps_fallen slots f.trail.items c.in-Open.last c.in-Open.end rows c.args.row.now c.of-place.result
          c.requires c.of-place.ensures a (ap (λ p. is_at_most p c.of-place.result) (sym c.of.ensures)
          ∙ sym c.if-is_at_most.ensures));
    }

pub returns-in-Passed-clause-stand : goal.returns-in-Passed-clause-stand
returns-in-Passed-clause-stand c places units rows st =
    let f = c.args.self.now in
    let slots = f.slots.items in
    let passed = kept_in slots f.trail.items (unended rows) f.state Passed c.in-Passed.is st.kept in
    record {
      slots = st.slots;
      answers = λ j lt. st.answers j lt ∙ same_answer units rows c.args.row.now (slot_place slots j) c.requires;
      ended = st.ended;
      earlier = st.earlier;
      kept = kept_in slots f.trail.items (unended (rows ++ c.args.row.now ∷ [])) Passed f.state (sym c.in-Passed.is)
          (keeps_passed slots rows c.args.row.now c.requires passed);
    }
