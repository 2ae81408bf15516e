use Rattle.std.proofs.Common.{◌≡◌, ◌+◌, ◌*◌, ◌-◌, ◌<◌, ◌⊎◌, inl, inr, length, true, None, arith, sym, ap, ap₂, ◌∙◌}
use Rattle.std.proofs.lemmas.List.{get_or_read}
use Rattle.dl_look.specs.declared.slots.Slot.{Slot}
use Rattle.dl_look.specs.Answer.{is_below}
use Rattle.dl_look.specs.Cuts.{first_from}
use Rattle.dl_look.specs.Slots.{no_slot, slot_place}
use Rattle.dl_memory.proofs.RefusalLemmas.{wants_fewer, wants_list}
use Rattle.dl_look.proofs.CutLemmas.{new_cut, same_cut, are_cuts, two_ends}
use Rattle.dl_look.proofs.cuts.cuts_of.Goals as goal
use Rattle.dl_look.proofs.cuts.cuts_of.Goals.{then-i-eq0, then-i-eq0-via-then-i-eq0}
use Rattle.dl_look.proofs.cuts.cuts_of.Goals.{then-i-eq0-via-else-i-eq0+then-is_below, else-i-eq0+else-is_below}

pub loop-i-preserved : goal.loop-i-preserved
loop-i-preserved g c =
    let l = c.loop-i in
    let spans = c.args.spans.now in
    let slots = c.in_ok-slots.slots.items in
    let given = c.in_ok-slots.ensures.slots in
    let seen = c.as_slice-2.ensures.value in
    let lt : l.i < length slots = omega (arith, c.in_ok-slots.slots.ok.0) in
    let before : l.i - 1 < length slots = omega arith in
    let lt' : l.i < length c.as_slice-2.result.now = omega (arith, ap length seen) in
    elim c.if-i-eq0.branch [
      | then-i-eq0 w ↦ (
          let place =
          ap (λ (s : Slot). s.place)
          (get_or_read slots l.i w.index-then-i-eq0.result.now lt w.index-then-i-eq0.ensures no_slot) in
          let sequence =
          get_or_read c.in_ok-sequences.sequences.items l.i w.index-then-i-eq0-2.result.now
          (omega (arith, c.in_ok-sequences.ensures.count)) w.index-then-i-eq0-2.ensures None
          ∙ c.in_ok-sequences.ensures.first l.i lt'
          ∙ ap (λ s. first_from 0 spans (slot_place s l.i)) seen in
          let above =
          elim w.then-i-eq0.branch as (λ b. (l.i ≡ 0)
          ⊎ ((0 < l.i) × (is_below (slot_place slots (l.i - 1)) (slot_place slots l.i) ≡ true))) [
            | then-i-eq0-via-then-i-eq0 w' ↦ inl w'.if-i-eq0.true
            | then-i-eq0-via-else-i-eq0+then-is_below w' ↦ inr (
              omega (arith, w'.if-i-eq0.false),
              ap₂ is_below
                  (sym (ap (λ (s : Slot). s.place)
                  (get_or_read slots (l.i - 1) w'.index.result.now before w'.index.ensures no_slot)))
                  (sym (ap (λ (s : Slot). s.place)
                  (get_or_read slots l.i w'.index-else-i-eq0.result.now lt w'.index-else-i-eq0.ensures no_slot)))
                  ∙ sym w'.is_below.ensures ∙ w'.if-is_below.true,
            )
          ] in
          rw w.cuts-is (record {
            cuts = new_cut spans slots l.cuts.items l.i l.invariant.cuts given.rising lt w.push_reserved.new.self.items
                (record {
                  place = w.index-then-i-eq0.result.now.place;
                  sequence =
                      w.index-then-i-eq0-2.result.now;
                }) w.push_reserved.ensures.items place sequence above;
            capacity = omega (arith, w.push_reserved.ensures.capacity, l.invariant.capacity);
          }))
      | else-i-eq0+else-is_below w ↦ (
          let some : 0 < l.i = omega (arith, w.if-i-eq0.false) in
          rw w.cuts-is (record {
            cuts = same_cut spans slots l.cuts.items l.i l.invariant.cuts given.rising lt some (
                ap₂ is_below
                (sym (ap (λ (s : Slot). s.place)
                (get_or_read slots (l.i - 1) w.index.result.now before w.index.ensures no_slot)))
                (sym (ap (λ (s : Slot). s.place)
                (get_or_read slots l.i w.index-else-i-eq0.result.now lt w.index-else-i-eq0.ensures no_slot)))
                ∙ sym w.is_below.ensures ∙ w.if-is_below.false);
            capacity = l.invariant.capacity;
          }))
    ]

pub returns-clause-cuts : goal.returns-clause-cuts
returns-clause-cuts g c =
    are_cuts c.args.spans.now c.as_slice.result.now c.in_ok-slots.slots.items c.loop-i.cuts.items c.loop-i.i
    (c.as_slice.ensures.value ∙ c.in_ok-ends.ensures.ends) c.in_ok-slots.ensures.slots c.loop-i.invariant.cuts
    (omega (arith, c.in_ok-slots.slots.ok.0))

pub returns-in_err-slots-clause-refused : goal.returns-in_err-slots-clause-refused
returns-in_err-slots-clause-refused g c =
    let many = ap length (c.as_slice.ensures.value ∙ c.in_ok-ends.ensures.ends) ∙ two_ends c.args.spans.now in
    wants_fewer _ _ (length c.as_slice.result.now) (2 * length c.args.spans.now + 1) (omega arith)
    c.in_err-slots.ensures.refused

pub returns-in_err-sequences-clause-refused : goal.returns-in_err-sequences-clause-refused
returns-in_err-sequences-clause-refused g c =
    let many = ap length (c.as_slice.ensures.value ∙ c.in_ok-ends.ensures.ends) ∙ two_ends c.args.spans.now in
    let slots = ap length c.as_slice-2.ensures.value ∙ c.in_ok-slots.ensures.slots.count in
    wants_fewer _ _ (length c.as_slice-2.result.now + 1) (2 * length c.args.spans.now + 1) (omega arith)
    c.in_err-sequences.ensures.refused

pub returns-in_err-cuts-clause-refused : goal.returns-in_err-cuts-clause-refused
returns-in_err-cuts-clause-refused g c =
    let many = ap length (c.as_slice.ensures.value ∙ c.in_ok-ends.ensures.ends) ∙ two_ends c.args.spans.now in
    let slots = c.in_ok-slots.ensures.slots.count in
    let len = c.len.ensures in
    wants_list _ _ c.len.result _ (omega (arith, c.in_ok-slots.slots.ok.0)) c.in_err-cuts.ensures.refused
