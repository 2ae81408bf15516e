-- Finders that are given one more row.
use Rattle.std.proofs.Common.{◌≡◌, ℕ, ◌<◌, ◌≤◌, Bool, true, false, ◌&&◌, List, [], ◌∷◌, ◌++◌, length, Option, Some}
use Rattle.std.proofs.Common.{None, inl, inr, arith, refl, sym, ap, ap₂, subst, ◌∙◌, ⊎_elim}
use Rattle.std.specs.Prelude.{if◌then◌else◌, is_none, nat_le, nat_lt}
use Rattle.std.specs.Option.{option_or}
use Rattle.std.proofs.lemmas.Bool.{cases_lt, le-leb, lt-leb, le-ltb, lt-ltb}
use Rattle.std.proofs.lemmas.List.{length_push}
use Rattle.dl_rows.specs.declared.row.Row.{Row}
use Rattle.dl_look.specs.declared.place.Place.{Place}
use Rattle.dl_look.specs.declared.slots.Slot.{Slot}
use Rattle.dl_look.specs.declared.trail.Stretch.{Stretch}
use Rattle.dl_look.specs.declared.finders.SequenceStage.{SequenceStage}
use Rattle.dl_look.specs.Answer.{place_of, is_below, is_at_most, is_rising, first_place, last_place, covers, last_upto}
use Rattle.dl_look.specs.Answer.{answer}
use Rattle.dl_look.specs.FinderRows.{unended}
use Rattle.dl_look.specs.FindersRows.{AnswerNone, row_so_far, IsTrail, Keeps}
use Rattle.dl_look.specs.Slots.{slot_place}
use Rattle.dl_look.specs.Trails.{row_at}
use Rattle.dl_look.specs.Units.{answer_of_units}
use Rattle.dl_look.proofs.LastUpto.{last_upto-push}
use Rattle.dl_look.proofs.MoreRows.{answers_for, answer-push, answer-push_end, last_place-push, is_rising-push}
use Rattle.dl_look.proofs.MoreRows.{unended-push}
use Rattle.dl_look.proofs.LedgerLemmas.{option_or-none}
use Rattle.dl_look.proofs.TrailLemmas.{option_or_assoc, split_at}
use Rattle.dl_look.proofs.PlaceOrder.{above-below, at_most-itself, at_most-trans, below-at_most, not_below-at_most}
use Rattle.dl_look.proofs.PlaceOrder.{not_between}

or_none : (o : Option Row) → option_or o None ≡ option_or None o
or_none None = refl
or_none (Some r) = refl

or_answer : (o : Option Row) (b : Bool) (p : Option Row)
    → (if is_none o && b then p else o) ≡ option_or o (if b then p else None)
or_answer None true p = refl
or_answer None false p = refl
or_answer (Some r) b p = refl

and-false : (b : Bool) → (b && false) ≡ false
and-false true = refl
and-false false = refl

either_row : (b : Bool) (o p : Option Row) → (b ≡ true → o ≡ p) → (if b then o else None) ≡ (if b then p else None)
either_row true o p h = h refl
either_row false o p h = refl

-- the last unit's answer, where the units before it have none
pub answer_of_units-push : (units : List (List Row)) (rows : List Row) (x : Place)
    → answer_of_units (units ++ rows ∷ []) x ≡ option_or (answer_of_units units x) (answer rows x)
answer_of_units-push [] rows x = or_none (answer rows x)
answer_of_units-push (u ∷ units) rows x =
    ap (option_or (answer u x)) (answer_of_units-push units rows x)
    ∙ sym (option_or_assoc (answer u x) (answer_of_units units x) (answer rows x))

-- the answer of a sequence's rows, after that of the rows before them
pub answer-end : (rows : List Row) (r : Row) (x : Place) → r.end_sequence ≡ true
    → answer (rows ++ r ∷ []) x ≡ option_or (answer rows x) (if answers_for x (unended rows ++ r ∷ [])
    then last_upto x (unended rows ++ r ∷ []) else None)
answer-end rows r x end =
    answer-push_end rows r x end
    ∙ or_answer (answer rows x) (answers_for x (unended rows ++ r ∷ [])) (last_upto x (unended rows ++ r ∷ []))

is_rising-more : (s : List Row) (r : Row) → 0 < length s
    → is_rising (s ++ r ∷ []) ≡ (is_rising s && is_at_most (last_place s) (place_of r))
is_rising-more [] r some = absurd (omega arith)
is_rising-more (q ∷ s) r some = is_rising-push q s r

first_place-more : (s : List Row) (r : Row) → 0 < length s → first_place (s ++ r ∷ []) ≡ first_place s
first_place-more [] r some = absurd (omega arith)
first_place-more (q ∷ s) r some = refl

-- a sequence begins
pub begins : (slots : List Slot) (r : Row) (end : ℕ)
    → ((j : ℕ) → j < length slots → is_below (slot_place slots j) (place_of r) ≡ nat_lt j end)
    → IsTrail slots [] r end (r ∷ [])
begins slots r end split =
    record {
      rising = refl;
      some = omega arith;
      from = at_most-itself (place_of r);
      to = refl;
      upto = λ x h. ap (λ (b : Bool). if b then Some r else None) h;
      split = split;
      rows = λ j lt. sym (ap (λ (b : Bool). if b then last_upto (slot_place slots j) (r ∷ [])
          else None) (not_between (place_of r) (slot_place slots j)));
    }

-- and goes on, rising
module _ (slots : List Slot) (trail new : List Stretch) (last : Row) (end end' : ℕ) (s : List Row)
    (a : IsTrail slots trail last end s) (r : Row) (rises : is_at_most (place_of last) (place_of r) ≡ true)
    (split : (j : ℕ) → j < length slots → is_below (slot_place slots j) (place_of r) ≡ nat_lt j end')
    (rows : (j : ℕ) → row_at new end' j ≡ option_or (row_at trail end j) (if nat_le end j && nat_lt j end'
    then Some last else None)) where
  covers_more : (x : Place) → covers x (s ++ r ∷ []) ≡ (is_at_most (first_place s) x && is_below x (place_of r))
  covers_more x =
      ap₂ (λ (p q : Place). is_at_most p x && is_below x q) (first_place-more s r a.some) (last_place-push s r)

  covers_before : (x : Place) → covers x s ≡ (is_at_most (first_place s) x && is_below x (place_of last))
  covers_before x = ap (λ q. is_at_most (first_place s) x && is_below x q) a.to

  upto_before : (x : Place) → is_below x (place_of r) ≡ true → last_upto x (s ++ r ∷ []) ≡ last_upto x s
  upto_before x below =
      last_upto-push x s r ∙ ap (λ (b : Bool). if b then Some r else last_upto x s) (above-below x (place_of r) below)

  rows_before : (j : ℕ) → j < length slots → j < end → row_at new end' j ≡ row_so_far (slot_place slots j) (s ++ r ∷ [])
  rows_before j lt less =
      let x = slot_place slots j in
      let below = a.split j lt ∙ lt-ltb j end less in
      let further = below-at_most x (place_of last) (place_of r) below rises in
      rows j
      ∙ ap (λ (b : Bool). option_or (row_at trail end j) (if b && nat_lt j end' then Some last else None))
      (lt-leb end j less)
      ∙ option_or-none (row_at trail end j)
      ∙ a.rows j lt
      ∙ ap₂ (λ (b : Bool) (o : Option Row). if b then o
      else None) (covers_before x ∙ ap (λ b. is_at_most (first_place s) x && b) (below ∙ sym further)
      ∙ sym (covers_more x)) (sym (upto_before x further))

  rows_later : (j : ℕ) → j < length slots → end ≤ j → row_at new end' j ≡ row_so_far (slot_place slots j) (s ++ r ∷ [])
  rows_later j lt more =
      let x = slot_place slots j in
      let above = a.split j lt ∙ le-ltb j end more in
      let from = not_below-at_most x (place_of last) above in
      let started = at_most-trans (first_place s) (place_of last) x a.from from in
      let nothing =
      a.rows j lt ∙ ap (λ (b : Bool). if b then last_upto x s
      else None) (covers_before x ∙ ap (λ b. is_at_most (first_place s) x && b) above
      ∙ and-false (is_at_most (first_place s) x)) in
      rows j
      ∙ ap₂ (λ (o : Option Row) (b : Bool). option_or o (if b && nat_lt j end' then Some last else None)) nothing
      (le-leb end j more)
      ∙ ap (λ (b : Bool). if b then Some last else None) (sym (split j lt))
      ∙ either_row (is_below x (place_of r)) (Some last) (last_upto x (s ++ r ∷ [])) (λ below. sym (upto_before x below
      ∙ a.upto x from))
      ∙ sym (ap (λ (b : Bool). if b then last_upto x (s ++ r ∷ [])
      else None) (covers_more x ∙ ap (λ b. b && is_below x (place_of r)) started))

  pub rows_more : (j : ℕ) → j < length slots → row_at new end' j ≡ row_so_far (slot_place slots j) (s ++ r ∷ [])
  rows_more j lt = ⊎_elim (rows_before j lt) (rows_later j lt) (cases_lt j end)

  pub rising_more : is_rising (s ++ r ∷ []) ≡ true
  rising_more =
      is_rising-more s r a.some ∙ ap₂ (λ (b c : Bool). b && c) a.rising (ap (λ p. is_at_most p (place_of r)) a.to
      ∙ rises)

  pub goes_on : IsTrail slots new r end' (s ++ r ∷ [])
  goes_on =
      record {
        rising = rising_more;
        some = omega (arith, length_push s r);
        from = ap (λ p. is_at_most p (place_of r)) (first_place-more s r a.some)
            ∙ at_most-trans (first_place s) (place_of last) (place_of r) a.from rises;
        to = last_place-push s r;
        upto = λ x h. last_upto-push x s r ∙ ap (λ (b : Bool). if b then Some r else last_upto x s) h;
        split = split;
        rows = rows_more;
      }

-- or falls
pub falls : (slots : List Slot) (trail : List Stretch) (last : Row) (end : ℕ) (s : List Row)
    → IsTrail slots trail last end s → (r : Row) → is_at_most (place_of last) (place_of r) ≡ false
    → is_rising (s ++ r ∷ []) ≡ false
falls slots trail last end s a r h =
    is_rising-more s r a.some ∙ ap₂ (λ (b c : Bool). b && c) a.rising (ap (λ p. is_at_most p (place_of r)) a.to ∙ h)

pub stays : (s : List Row) (r : Row) → is_rising s ≡ false → is_rising (s ++ r ∷ []) ≡ false
stays [] r h = cc
stays (q ∷ s) r h = is_rising-push q s r ∙ ap (λ b. b && is_at_most (last_place (q ∷ s)) (place_of r)) h

pub kept_in : (slots : List Slot) (trail : List Stretch) (s : List Row) (state now : SequenceStage) → state ≡ now
    → Keeps slots trail state s → Keeps slots trail now s
kept_in slots trail s state now is keeps = subst (λ k. Keeps slots trail k s) is keeps

pub split_seen : (slots seen : List Slot) (place p : Place) (end : ℕ) → seen ≡ slots → place ≡ p
    → ((j : ℕ) → j < length seen → is_below (slot_place seen j) place ≡ nat_lt j end) → (j : ℕ) → j < length slots
    → is_below (slot_place slots j) p ≡ nat_lt j end
split_seen slots seen place p end same at split j lt =
    ap₂ (λ (l : List Slot) (q : Place). is_below (slot_place l j) q) (sym same) (sym at)
    ∙ split j (subst (λ l. j < length l) (sym same) lt)

module _ (slots seen : List Slot) (same : seen ≡ slots) (rows : List Row) (r last : Row) (is : last ≡ r)
    (more : r.end_sequence ≡ false) (place : Place) (at : place ≡ place_of r) where
  pub keeps_begun : (trail : List Stretch) (end : ℕ) → unended rows ≡ [] → trail ≡ []
      → ((j : ℕ) → j < end → is_below (slot_place seen j) place ≡ true)
      → ((j : ℕ) → end ≤ j → j < length seen → is_below (slot_place seen j) place ≡ false)
      → IsTrail slots trail last end (unended (rows ++ r ∷ []))
  keeps_begun trail end none empty below rest =
      let first =
      begins slots r end
      (split_seen slots seen place (place_of r) end same at (split_at seen place end below rest)) in
      subst (λ s. IsTrail slots trail last end s) (sym (unended-push [] rows r more ∙ ap (λ l. l ++ r ∷ []) none))
      (subst (λ q. IsTrail slots trail q end (r ∷ [])) (sym is)
      (subst (λ l. IsTrail slots l r end (r ∷ [])) (sym empty) first))

  pub keeps_above : (end : ℕ) → unended rows ≡ [] → end ≡ length seen
      → ((j : ℕ) → j < end → is_below (slot_place seen j) place ≡ true) → AnswerNone slots (unended (rows ++ r ∷ []))
  keeps_above end none all below =
      subst (AnswerNone slots) (sym (unended-push [] rows r more ∙ ap (λ l. l ++ r ∷ []) none))
      (inr (
        omega arith,
        λ j lt. above-below (slot_place slots j) (place_of r)
            (ap₂ (λ (l : List Slot) (q : Place). is_below (slot_place l j) q) (sym same) (sym at)
            ∙ below j (subst (λ n. j < n) (sym all) (subst (λ l. j < length l) (sym same) lt))),
      ))

  pub keeps_on : (trail new : List Stretch) (before : Row) (end end' : ℕ)
      → IsTrail slots trail before end (unended rows) → is_at_most (place_of before) place ≡ true
      → ((j : ℕ) → j < length seen → is_below (slot_place seen j) place ≡ nat_lt j end')
      → ((j : ℕ) → row_at new end' j ≡ option_or (row_at trail end j) (if nat_le end j && nat_lt j end' then Some before
      else None)) → IsTrail slots new last end' (unended (rows ++ r ∷ []))
  keeps_on trail new before end end' a rises split passed =
      let further =
      goes_on slots trail new before end end' (unended rows) a r (ap (is_at_most (place_of before)) (sym at)
      ∙ rises) (split_seen slots seen place (place_of r) end' same at split) passed in
      subst (λ s. IsTrail slots new last end' s) (sym (unended-push [] rows r more))
      (subst (λ q. IsTrail slots new q end' (unended rows ++ r ∷ [])) (sym is) further)

pub keeps_fallen : (slots : List Slot) (trail : List Stretch) (last : Row) (end : ℕ) (rows : List Row) (r : Row)
    (place : Place) → r.end_sequence ≡ false → place ≡ place_of r → IsTrail slots trail last end (unended rows)
    → is_at_most (place_of last) place ≡ false → is_rising (unended (rows ++ r ∷ [])) ≡ false
keeps_fallen slots trail last end rows r place more at a h =
    ap is_rising (unended-push [] rows r more)
    ∙ falls slots trail last end (unended rows) a r (ap (is_at_most (place_of last)) (sym at) ∙ h)

none_more : (slots : List Slot) (s : List Row) (r : Row) → AnswerNone slots s → AnswerNone slots (s ++ r ∷ [])
none_more slots s r (inl h) = inl (stays s r h)
none_more slots s r (inr (some, above)) = inr (
  omega (arith, length_push s r),
  λ j lt. ap (λ p. is_at_most p (slot_place slots j)) (first_place-more s r some) ∙ above j lt,
)

pub keeps_passed : (slots : List Slot) (rows : List Row) (r : Row) → r.end_sequence ≡ false
    → AnswerNone slots (unended rows) → AnswerNone slots (unended (rows ++ r ∷ []))
keeps_passed slots rows r more h =
    subst (AnswerNone slots) (sym (unended-push [] rows r more)) (none_more slots (unended rows) r h)

-- the answer of a place, after that of the units before
pub same_answer : (units : List (List Row)) (rows : List Row) (r : Row) (x : Place) → r.end_sequence ≡ false
    → option_or (answer_of_units units x) (answer rows x)
    ≡ option_or (answer_of_units units x) (answer (rows ++ r ∷ []) x)
same_answer units rows r x more = ap (option_or (answer_of_units units x)) (sym (answer-push rows r x more))

-- the end row of a sequence that doesn't answer, and of one that does
pub no_answer_at_end : (units : List (List Row)) (rows : List Row) (r : Row) (x : Place) → r.end_sequence ≡ true
    → answers_for x (unended rows ++ r ∷ []) ≡ false
    → option_or (answer_of_units units x) (answer rows x)
    ≡ option_or (answer_of_units units x) (answer (rows ++ r ∷ []) x)
no_answer_at_end units rows r x end not =
    ap (option_or (answer_of_units units x))
    (sym (answer-end rows r x end
    ∙ ap (λ (b : Bool). option_or (answer rows x) (if b then last_upto x (unended rows ++ r ∷ []) else None)) not
    ∙ option_or-none (answer rows x)))

pub answers_at_end : (units : List (List Row)) (rows : List Row) (r : Row) (x : Place) (o : Option Row)
    → r.end_sequence ≡ true → is_rising (unended rows ++ r ∷ []) ≡ true → o ≡ row_so_far x (unended rows ++ r ∷ [])
    → option_or (option_or (answer_of_units units x) (answer rows x)) o
    ≡ option_or (answer_of_units units x) (answer (rows ++ r ∷ []) x)
answers_at_end units rows r x o end rises is =
    option_or_assoc (answer_of_units units x) (answer rows x) o
    ∙ ap (λ p. option_or (answer_of_units units x) (option_or (answer rows x) p)) is
    ∙ ap (λ (b : Bool). option_or (answer_of_units units x)
    (option_or (answer rows x) (if b && covers x (unended rows ++ r ∷ []) then last_upto x (unended rows ++ r ∷ [])
    else None))) (sym rises)
    ∙ ap (option_or (answer_of_units units x)) (sym (answer-end rows r x end))

pub not_alone : (s : List Row) (r : Row) (x : Place) → s ≡ [] → answers_for x (s ++ r ∷ []) ≡ false
not_alone s r x none = ap (λ l. answers_for x (l ++ r ∷ [])) none ∙ not_between (place_of r) x

pub not_fallen : (s : List Row) (r : Row) (x : Place) → is_rising (s ++ r ∷ []) ≡ false
    → answers_for x (s ++ r ∷ []) ≡ false
not_fallen s r x h = ap (λ b. b && covers x (s ++ r ∷ [])) h

-- nor does one that answers for no slot
pub none_at_end : (slots : List Slot) (s : List Row) (r : Row) (j : ℕ) → j < length slots → AnswerNone slots s
    → answers_for (slot_place slots j) (s ++ r ∷ []) ≡ false
none_at_end slots s r j lt (inl h) = not_fallen s r (slot_place slots j) (stays s r h)
none_at_end slots s r j lt (inr (some, above)) =
    let x = slot_place slots j in
    ap (λ b. is_rising (s ++ r ∷ []) && (b && is_below x (last_place (s ++ r ∷ []))))
    (ap (λ p. is_at_most p x) (first_place-more s r some) ∙ above j lt)
    ∙ and-false (is_rising (s ++ r ∷ []))
