-- A finder that is given one more row.
use Rattle.std.proofs.Common.{◌≡◌, Bool, true, false, ◌&&◌, List, [], ◌∷◌, ◌++◌, Option, Some, None, refl, sym, ap, ap₂}
use Rattle.std.proofs.Common.{subst, ◌∙◌}
use Rattle.std.specs.Prelude.{if◌then◌else◌, is_none}
use Rattle.std.proofs.Math.Bool.{and_assoc}
use Rattle.dl_rows.specs.declared.row.Row.{Row}
use Rattle.dl_look.specs.declared.place.Place.{Place}
use Rattle.dl_look.specs.declared.finder.Finder.{Finder}
use Rattle.dl_look.specs.declared.finder.AnswerStage.{AnswerStage}
use Rattle.dl_look.specs.declared.finder.AnswerStage.TheVariants.{Start, Passed, Open, Answered}
use Rattle.dl_look.specs.Answer.{place_of, is_below, is_at_most, is_rising, first_place, last_place, last_upto}
use Rattle.dl_look.specs.FinderRows.{unended, rises_from, answer_kept, Keeps, StandsFor}
use Rattle.dl_look.proofs.LastUpto.{last_upto-push}
use Rattle.dl_look.proofs.PlaceOrder.{above-below, least_is_at_most, not_between}
use Rattle.dl_look.proofs.MoreRows.{answers_for, answer-push, answer-push_end, unended-push, unended-push_end}
use Rattle.dl_look.proofs.MoreRows.{last_place-push, is_rising-push}

swap : (a b c : Bool) → ((a && b) && c) ≡ ((a && c) && b)
swap false b c = refl
swap true false false = refl
swap true false true = refl
swap true true false = refl
swap true true true = refl

-- a row after others
rises_from-push : (x : Place) (q : Row) (s : List Row) (r : Row)
    → rises_from x (q ∷ s ++ r ∷ []) ≡ (rises_from x (q ∷ s) && is_at_most (last_place (q ∷ s)) (place_of r))
rises_from-push x q s r =
    ap (λ b. b && is_at_most (place_of q) x) (is_rising-push q s r)
    ∙ swap (is_rising (q ∷ s)) (is_at_most (last_place (q ∷ s)) (place_of r)) (is_at_most (place_of q) x)

answers_for-push : (x : Place) (s : List Row) (r : Row)
    → answers_for x (s ++ r ∷ []) ≡ (rises_from x (s ++ r ∷ []) && is_below x (place_of r))
answers_for-push x s r =
    sym (and_assoc (is_rising (s ++ r ∷ [])) (is_at_most (first_place (s ++ r ∷ [])) x)
    (is_below x (last_place (s ++ r ∷ []))))
    ∙ ap (λ p. rises_from x (s ++ r ∷ []) && is_below x p) (last_place-push s r)

rises_from-last : (x last p : Place) (found : Row) (s : List Row) (r : Row) → Keeps (Open last found) x s
    → p ≡ place_of r → rises_from x (s ++ r ∷ []) ≡ is_at_most last p
rises_from-last x last p found [] r (from, is, finds) at = cc
rises_from-last x last p found (q ∷ s) r (from, is, finds) at =
    rises_from-push x q s r ∙ ap₂ (λ (a b : Bool). a && b) from (ap₂ is_at_most (sym is) (sym at))

stays_passed : (x : Place) (s : List Row) (r : Row) → Keeps Passed x s → Keeps Passed x (s ++ r ∷ [])
stays_passed x [] r passed = absurd (least_is_at_most x passed)
stays_passed x (q ∷ s) r passed =
    rises_from-push x q s r ∙ ap (λ b. b && is_at_most (last_place (q ∷ s)) (place_of r)) passed

module _ (old new : Finder) (x : Place) (rows : List Row) (r : Row) (p : Place) (stands : StandsFor old x rows)
    (at : p ≡ place_of r) (place : new.place ≡ old.place) where
  abbrev next : List Row
  next = unended rows ++ r ∷ []

  kept_of : (state : AnswerStage) → old.state ≡ state → Keeps state x (unended rows)
  kept_of state was = subst (λ k. Keeps k x (unended rows)) was stands.kept

  upto : (b : Bool) → is_at_most p old.place ≡ b → is_at_most p x ≡ b
  upto b e = ap (is_at_most p) (sym stands.place) ∙ e

  goes_on : (state : AnswerStage) → r.end_sequence ≡ false → new.state ≡ state → answer_kept state ≡ answer_kept old.state
      → Keeps state x next → StandsFor new x (rows ++ r ∷ [])
  goes_on state more is same keeps =
      record {
        place = place ∙ stands.place;
        answer = ap answer_kept is ∙ same ∙ stands.answer ∙ sym (answer-push rows r x more);
        kept = rw (is, unended-push [] rows r more) keeps;
      }

  -- the first row of a sequence
  pub begins : r.end_sequence ≡ false → old.state ≡ Start → new.state ≡ Open p r → is_at_most p old.place ≡ true
      → StandsFor new x (rows ++ r ∷ [])
  begins more was is below =
      let none = kept_of Start was in
      let here = ap (λ q. is_at_most q x) (sym at) ∙ upto true below in
      let finds = sym (last_upto-push x [] r ∙ ap (λ (b : Bool). if b then Some r else None) here) in
      goes_on (Open p r) more is (sym (ap answer_kept was))
      (subst (λ s. Keeps (Open p r) x (s ++ r ∷ [])) (sym none) (here, at, finds))

  pub passes : r.end_sequence ≡ false → old.state ≡ Start → new.state ≡ Passed → is_at_most p old.place ≡ false
      → StandsFor new x (rows ++ r ∷ [])
  passes more was is above =
      let none = kept_of Start was in
      let here = ap (λ q. is_at_most q x) (sym at) ∙ upto false above in
      goes_on Passed more is (sym (ap answer_kept was)) (subst (λ s. Keeps Passed x (s ++ r ∷ [])) (sym none) here)

  -- a further one of rows that don't answer
  pub stays : r.end_sequence ≡ false → old.state ≡ Passed → new.state ≡ Passed → StandsFor new x (rows ++ r ∷ [])
  stays more was is =
      goes_on Passed more is (sym (ap answer_kept was)) (stays_passed x (unended rows) r (kept_of Passed was))

  pub stays_answered : (found : Row) → r.end_sequence ≡ false → old.state ≡ Answered found → new.state ≡ Answered found
      → StandsFor new x (rows ++ r ∷ [])
  stays_answered found more was is = goes_on (Answered found) more is (sym (ap answer_kept was)) tt

  -- and of rows that may
  pub falls : (last : Place) (found : Row) → r.end_sequence ≡ false → old.state ≡ Open last found → new.state ≡ Passed
      → is_at_most last p ≡ false → StandsFor new x (rows ++ r ∷ [])
  falls last found more was is falling =
      goes_on Passed more is (sym (ap answer_kept was))
      (rises_from-last x last p found (unended rows) r (kept_of (Open last found) was) at ∙ falling)

  pub rises : (last : Place) (found kept : Row) → r.end_sequence ≡ false → old.state ≡ Open last found
      → new.state ≡ Open p kept → is_at_most last p ≡ true
      → Some kept ≡ (if is_at_most p old.place then Some r else Some found) → StandsFor new x (rows ++ r ∷ [])
  rises last found kept more was is rising keeps =
      let before = kept_of (Open last found) was in
      let finds =
      keeps
      ∙ ap₂ (λ (b : Bool) (o : Option Row). if b then Some r else o) (ap₂ is_at_most at stands.place) before.2
      ∙ sym (last_upto-push x (unended rows) r) in
      goes_on (Open p kept) more is (sym (ap answer_kept was)) (
        rises_from-last x last p found (unended rows) r before at ∙ rising,
        at ∙ sym (last_place-push (unended rows) r),
        finds,
      )

  ends : (state : AnswerStage) → r.end_sequence ≡ true → new.state ≡ state → Keeps state x []
      → answer_kept state ≡ (if is_none (answer_kept old.state) && answers_for x next then last_upto x next
      else answer_kept old.state) → StandsFor new x (rows ++ r ∷ [])
  ends state end is keeps answered =
      record {
        place = place ∙ stands.place;
        answer =
            ap answer_kept is
            ∙ answered
            ∙ ap (λ o. if is_none o && answers_for x next then last_upto x next else o) stands.answer
            ∙ sym (answer-push_end rows r x end);
        kept = rw (is, unended-push_end [] rows r end) keeps;
      }

  ends_unanswered : r.end_sequence ≡ true → new.state ≡ Start → answer_kept old.state ≡ None
      → answers_for x next ≡ false → StandsFor new x (rows ++ r ∷ [])
  ends_unanswered end is none not =
      ends Start end is refl (sym (ap₂ (λ (o : Option Row) (b : Bool). if is_none o && b then last_upto x next
      else o) none not))

  -- an end row of rows that don't answer
  pub ends_start : r.end_sequence ≡ true → old.state ≡ Start → new.state ≡ Start → StandsFor new x (rows ++ r ∷ [])
  ends_start end was is =
      ends_unanswered end is (ap answer_kept was) (ap (λ s. answers_for x (s ++ r ∷ [])) (kept_of Start was)
      ∙ not_between (place_of r) x)

  pub ends_passed : r.end_sequence ≡ true → old.state ≡ Passed → new.state ≡ Start → StandsFor new x (rows ++ r ∷ [])
  ends_passed end was is =
      ends_unanswered end is (ap answer_kept was) (answers_for-push x (unended rows) r
      ∙ ap (λ b. b && is_below x (place_of r)) (stays_passed x (unended rows) r (kept_of Passed was)))

  pub ends_answered : (found : Row) → r.end_sequence ≡ true → old.state ≡ Answered found → new.state ≡ Answered found
      → StandsFor new x (rows ++ r ∷ [])
  ends_answered found end was is =
      ends (Answered found) end is tt (sym (ap (λ o. if is_none o && answers_for x next then last_upto x next
      else o) (ap answer_kept was)))

  closes : (last : Place) (found : Row) → old.state ≡ Open last found
      → answers_for x next ≡ (is_at_most last p && is_below old.place p)
  closes last found was =
      answers_for-push x (unended rows) r
      ∙ ap₂ (λ (a b : Bool). a
      && b) (rises_from-last x last p found (unended rows) r (kept_of (Open last found) was) at)
      (ap₂ is_below (sym stands.place) (sym at))

  -- and of rows that may
  pub ends_open : (last : Place) (found : Row) → r.end_sequence ≡ true → old.state ≡ Open last found → new.state ≡ Start
      → (is_at_most last p && is_below old.place p) ≡ false → StandsFor new x (rows ++ r ∷ [])
  ends_open last found end was is not =
      ends_unanswered end is (ap answer_kept was) (closes last found was ∙ not)

  pub ends_found : (last : Place) (found : Row) → r.end_sequence ≡ true → old.state ≡ Open last found
      → new.state ≡ Answered found → is_at_most last p ≡ true → is_below old.place p ≡ true
      → StandsFor new x (rows ++ r ∷ [])
  ends_found last found end was is rising below =
      let below_end = ap₂ is_below (sym stands.place) (sym at) ∙ below in
      let finds =
      last_upto-push x (unended rows) r
      ∙ ap (λ (b : Bool). if b then Some r else last_upto x (unended rows)) (above-below x (place_of r) below_end)
      ∙ sym (kept_of (Open last found) was).2 in
      ends (Answered found) end is tt (sym (ap₂ (λ (o : Option Row) (b : Bool). if is_none o && b then last_upto x next
      else o) (ap answer_kept was) (closes last found was ∙ ap₂ (λ (a b : Bool). a && b) rising below) ∙ finds))
