-- What finders answer, and which answers are new.
use Rattle.std.proofs.Common.{◌≡◌, ℕ, ◌+◌, ◌-◌, ◌<◌, ◌≤◌, Bool, List, [], ◌∷◌, ◌++◌, length, take, drop, get_or}
use Rattle.std.proofs.Common.{Some, None, arith, refl, sym, ap, ap₂, subst, ◌∙◌, ⊎_elim, length-take, length-drop}
use Rattle.std.specs.Prelude.{if◌then◌else◌, nat_lt, slice_get}
use Rattle.std.specs.Option.{option_and_then, option_or}
use Rattle.std.proofs.lemmas.Bool.{cases_lt, le-ltb, lt-ltb}
use Rattle.std.proofs.lemmas.List.{get_or_default, get_or_past, get_or-take, get_or-drop}
use Rattle.std.proofs.lemmas.Option.{slice_get-get_or, slice_get_past, slice_get_within}
use Rattle.dl_rows.specs.declared.row.Row.{Row}
use Rattle.dl_look.specs.declared.place.Place.{Place}
use Rattle.dl_look.specs.declared.slots.Slot.{Slot}
use Rattle.dl_look.specs.declared.ledger.Answered.{Answered}
use Rattle.dl_look.specs.declared.ledger.Ledger.{Ledger}
use Rattle.dl_look.specs.declared.finders.Finders.{Finders}
use Rattle.dl_look.specs.Answer.{answer}
use Rattle.dl_look.specs.FindersRows.{Stand}
use Rattle.dl_look.specs.Ledgers.{no_answer, answered_at, entry_at, answer_upto}
use Rattle.dl_look.specs.Slots.{no_place, slot_place, slot_number}
use Rattle.dl_look.specs.Units.{answer_of_units, FirstAnswer, AreFirstAnswers}
use Rattle.dl_look.proofs.FindersLemmas.{answer_of_units-push}
use Rattle.dl_look.proofs.LedgerLemmas.{entry_within, upto_entry}

-- an answer among the first `limit` has an entry there
record Entry (ledger : Ledger) (limit i : ℕ) (r : Row) : Type 0 where
  entry : ℕ
  is : entry_at ledger i ≡ Some entry
  under : entry < limit
  row : (answered_at ledger entry).row ≡ r

entry_of : (ledger : Ledger) (limit i : ℕ) (r : Row) → answer_upto limit ledger i ≡ Some r → Entry ledger limit i r
entry_of ledger limit i r h =
    elim (entry_at ledger i) as (λ o. entry_at ledger i ≡ o
    → option_and_then (λ e. if nat_lt e limit then Some (answered_at ledger e).row else None) o ≡ Some r
    → Entry ledger limit i r) [
      | None ↦ λ is h. cc
      | Some e ↦ λ is h. ⊎_elim
          (λ lt. record {
            entry = e;
            is = is;
            under = lt;
            row = let z =
                sym (ap (λ (b : Bool). if b then Some (answered_at ledger e).row else None) (lt-ltb e limit lt)) ∙ h in
                cc;
          })
          (λ le. absurd (let z =
          sym (ap (λ (b : Bool). if b then Some (answered_at ledger e).row else None) (le-ltb e limit le)) ∙ h in
          cc))
          (cases_lt e limit)
    ] refl h

not_before : (ledger : Ledger) (limit i e : ℕ) → entry_at ledger i ≡ Some e → answer_upto limit ledger i ≡ None
    → limit ≤ e
not_before ledger limit i e is none =
    ⊎_elim
    (λ lt. absurd (let z =
    sym (ap (λ (b : Bool). if b then Some (answered_at ledger e).row else None) (lt-ltb e limit lt))
    ∙ sym (upto_entry ledger limit i e is) ∙ none in cc))
    (λ le. le)
    (cases_lt e limit)

module _ (f : Finders) (places : List Place) (units : List (List Row)) (rows : List Row)
    (st : Stand f places units rows) where
  abbrev slots : List Slot
  slots = f.slots.items

  -- the slot of a place
  place_of_slot : (i j : ℕ) → i < length places → j < length slots → slot_number slots j ≡ i
      → slice_get places i ≡ Some (slot_place slots j)
  place_of_slot i j lt less is =
      slice_get-get_or places i no_place lt
      ∙ ap Some (sym (st.slots.place j less ∙ ap (λ k. get_or places k no_place) is))

  pub answer_is : (i : ℕ)
      → answer_upto f.whole f.ledger i ≡ option_and_then (answer_of_units units) (slice_get places i)
  answer_is i =
      ⊎_elim
      (λ lt. (
      let j = st.slots.each i lt in
      ap (answer_upto f.whole f.ledger) (sym j.2) ∙ st.ended j.0 j.1
      ∙ sym (ap (option_and_then (answer_of_units units)) (place_of_slot i j.0 lt j.1 j.2))))
      (λ le. (
      let past = get_or_past f.ledger.entries.items i None (omega (arith, f.sound.count, st.slots.count)) in
      ap (option_and_then (λ e. if nat_lt e f.whole then Some (answered_at f.ledger e).row else None)) past
      ∙ sym (ap (option_and_then (answer_of_units units)) (slice_get_past places i le))))
      (cases_lt i (length places))

-- the answers from one number up to another, before which the units answered, and after which the unit after them did
-- too
module _ (f : Finders) (places : List Place) (units : List (List Row)) (last : List Row) (all : List (List Row))
    (rows : List Row) (st : Stand f places all rows) (from to : ℕ) (upto : to ≤ length f.ledger.log.items)
    (below : from ≤ to)
    (were : (j : ℕ) → j < length f.slots.items → answer_upto from f.ledger (slot_number f.slots.items
    j) ≡ answer_of_units units (slot_place f.slots.items j))
    (are : (j : ℕ) → j < length f.slots.items → answer_upto to f.ledger (slot_number f.slots.items
    j) ≡ option_or (answer_of_units units (slot_place f.slots.items j))
    (answer last (slot_place f.slots.items j))) where
  abbrev new : List Answered
  new = take (to - from) (drop from f.ledger.log.items)

  count : length new ≡ to - from
  count = omega (
    arith,
    length-take (to - from) (drop from f.ledger.log.items),
    length-drop from f.ledger.log.items,
    upto,
    below,
  )

  new_at : (k : ℕ) (d : Answered) → k < length new → get_or new k d ≡ answered_at f.ledger (from + k)
  new_at k d lt =
      get_or-take (to - from) (drop from f.ledger.log.items) k d (omega (arith, count))
      ∙ get_or-drop from f.ledger.log.items k d
      ∙ get_or_default f.ledger.log.items (from + k) d no_answer (omega (arith, count, upto))

  entry_is : (k : ℕ) → k < length new → entry_at f.ledger (answered_at f.ledger (from + k)).number ≡ Some (from + k)
  entry_is k lt = f.sound.kept (from + k) (omega (arith, count, upto))

  first : (i e : ℕ) (r : Row) → entry_at f.ledger i ≡ Some e → from ≤ e → e < to → (answered_at f.ledger e).row ≡ r
      → FirstAnswer places units last i r
  first i e r is above under row =
      let lt : i < length places =
      omega (arith, entry_within f.ledger.entries.items i e is, f.sound.count, st.slots.count) in
      let j = st.slots.each i lt in
      let x = slot_place f.slots.items j.0 in
      let none =
      sym (ap (answer_upto from f.ledger) (sym j.2) ∙ were j.0 j.1) ∙ upto_entry f.ledger from i e is
      ∙ ap (λ (b : Bool). if b then Some (answered_at f.ledger e).row else None) (le-ltb e from above) in
      let some =
      sym (ap (answer_upto to f.ledger) (sym j.2) ∙ are j.0 j.1) ∙ upto_entry f.ledger to i e is
      ∙ ap₂ (λ (b : Bool) (q : Row). if b then Some q else None) (lt-ltb e to under) row in (
        x,
        place_of_slot f places all rows st i j.0 lt j.1 j.2,
        none,
        sym (ap (λ o. option_or o (answer last x)) none)
            ∙ some,
      )

  pub are_new : AreFirstAnswers places units last new
  are_new =
      record {
        right = λ k d lt. subst (λ (a : Answered). FirstAnswer places units last a.number a.row) (sym (new_at k d lt)) (
            first (answered_at f.ledger (from + k)).number (from + k) (answered_at f.ledger (from + k)).row
            (entry_is k lt) (omega arith) (omega (arith, count)) refl);
        all = λ i r (x, at, none, some). (
            let lt = slice_get_within places i x at in
            let j = st.slots.each i lt in
            let here : slot_place f.slots.items j.0 ≡ x =
            (let z = place_of_slot f places all rows st i j.0 lt j.1 j.2 in cc) in
            let was : answer_upto from f.ledger i ≡ None =
            ap (answer_upto from f.ledger) (sym j.2) ∙ were j.0 j.1 ∙ ap (answer_of_units units) here ∙ none in
            let now : answer_upto to f.ledger i ≡ Some r =
            ap (answer_upto to f.ledger) (sym j.2) ∙ are j.0 j.1
            ∙ ap (λ (p : Place). option_or (answer_of_units units p) (answer last p)) here
            ∙ ap₂ option_or none some in
            let e = entry_of f.ledger to i r now in
            let under = e.under in
            let above = not_before f.ledger from i e.entry e.is was in
            let less : e.entry - from < length new = omega (arith, count) in
            let back : from + (e.entry - from) ≡ e.entry = omega arith in (
              e.entry - from,
              less,
              λ d. (
                  new_at (e.entry - from) d less
                  ∙ ap (answered_at f.ledger) back
                  ∙ ap₂ (λ (n : ℕ) (q : Row). record { number = n; row = q }) (f.sound.logged i e.entry e.is).1 e.row),
            ));
        once = λ k m d lt lt' same. (
            let z = sym (entry_is k lt) ∙ ap (entry_at f.ledger) (sym (ap (λ (a : Answered). a.number) (new_at k d lt))
            ∙ same ∙ ap (λ (a : Answered). a.number) (new_at m d lt')) ∙ entry_is m lt' in
            let e : from + k ≡ from + m = cc in
            omega arith);
      }

-- those of the last unit that ended
pub are_of_last : (f : Finders) (places : List Place) (units : List (List Row)) (last rows : List Row)
    → Stand f places (units ++ last ∷ []) rows
    → AreFirstAnswers places units last (take (f.whole - f.before) (drop f.before f.ledger.log.items))
are_of_last f places units last rows st =
    are_new f places units last (units ++ last ∷ []) rows st f.before f.whole f.ended f.earlier
    (st.earlier units last refl)
    (λ j lt. st.ended j lt ∙ answer_of_units-push units last (slot_place f.slots.items j))

-- those of the current unit
pub are_of_this : (f : Finders) (places : List Place) (units : List (List Row)) (rows : List Row)
    → Stand f places units rows
    → AreFirstAnswers places units rows (take (length f.ledger.log.items - f.whole) (drop f.whole f.ledger.log.items))
are_of_this f places units rows st =
    are_new f places units rows units rows st f.whole (length f.ledger.log.items) (omega arith) f.ended st.ended
    st.answers
