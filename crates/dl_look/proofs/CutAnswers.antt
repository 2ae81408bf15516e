-- The last cut that isn't above a place tells the sequence that answers.
use Rattle.std.proofs.Common.{◌≡◌, ℕ, zero, suc, ◌+◌, ◌-◌, ◌<◌, ◌≤◌, Bool, true, false, ◌&&◌, List, [], ◌∷◌, length}
use Rattle.std.proofs.Common.{drop, get_or, Option, Some, None, arith, refl, sym, ap, ap₂, subst, ◌∙◌, ⊎_elim}
use Rattle.std.specs.Prelude.{if◌then◌else◌}
use Rattle.std.proofs.lemmas.Bool.{cases_eq, cases_lt}
use Rattle.std.proofs.lemmas.List.{get_or_read}
use Rattle.dl_rows.specs.declared.row.Row.{Row}
use Rattle.dl_look.specs.declared.place.Place.{Place}
use Rattle.dl_look.specs.declared.probed.Span.{Span}
use Rattle.dl_look.specs.declared.cuts.Cut.{Cut}
use Rattle.dl_look.specs.Answer.{is_below, is_at_most, sequences, last_upto, answer}
use Rattle.dl_look.specs.Cuts.{covers_span, first_from, no_cut, no_span, cut_place, AreCuts}
use Rattle.dl_look.specs.Spans.{spans_from, spans}
use Rattle.dl_look.proofs.MoreRows.{answers_for, answer_among}
use Rattle.dl_look.proofs.PlaceOrder.{above-below, at_most-itself, at_most-not_below_itself, below-is_at_most}
use Rattle.dl_look.proofs.PlaceOrder.{not_at_most-below}
use Rattle.dl_look.proofs.SpanLemmas.{Passed, Hit, among_next, hit, length-spans}

-- spans that cover the same of two places
same_first : (n : ℕ) (ss : List Span) (x p : Place)
    → ((i : ℕ) → i < length ss → covers_span x (get_or ss i no_span) ≡ covers_span p (get_or ss i no_span))
    → first_from n ss x ≡ first_from n ss p
same_first n [] x p same = refl
same_first n (s ∷ ss) x p same =
    ap₂ (λ (b : Bool) (o : Option ℕ). if b then Some n
    else o) (same 0 (omega arith)) (same_first (suc n) ss x p (λ i lt. same (suc i) (omega arith)))

no_first : (n : ℕ) (ss : List Span) (x : Place)
    → ((i : ℕ) → i < length ss → covers_span x (get_or ss i no_span) ≡ false) → first_from n ss x ≡ None
no_first n [] x none = refl
no_first n (s ∷ ss) x none =
    ap₂ (λ (b : Bool) (o : Option ℕ). if b then Some n
    else o) (none 0 (omega arith)) (no_first (suc n) ss x (λ i lt. none (suc i) (omega arith)))

and-false : (b : Bool) → (b && false) ≡ false
and-false true = refl
and-false false = refl

module _ (ss : List Span) (cuts : List Cut) (a : AreCuts ss cuts) (x : Place) (after : ℕ) (within : after ≤ length cuts)
    (upto : (k : ℕ) → k < after → is_at_most (cut_place cuts k) x ≡ true)
    (above : (k : ℕ) → after ≤ k → k < length cuts → is_at_most (cut_place cuts k) x ≡ false) where
  pub none_covers : after ≡ 0 → first_from 0 ss x ≡ None
  none_covers none =
      no_first 0 ss x (λ i lt. (
      let s = get_or ss i no_span in
      let k = a.begins i lt in
      let high = sym (ap (λ p. is_at_most p x) k.2) ∙ above k.0 (omega arith) k.1 in
      ap (λ b. s.rising && (b && is_below x s.last)) high ∙ and-false s.rising))

  module _ (some : 0 < after) where
    abbrev cut : Place
    cut = cut_place cuts (after - 1)

    -- a cut is at this one or below where it isn't above x
    at_cut : (k : ℕ) → k < length cuts → is_at_most (cut_place cuts k) x ≡ is_at_most (cut_place cuts k) cut
    at_cut k lt =
        ⊎_elim
        (λ less. upto k less ∙ sym (⊎_elim
        (λ here. ap (λ n. is_at_most (cut_place cuts n) cut) here ∙ at_most-itself cut)
        (λ ne. below-is_at_most (cut_place cuts k) cut (a.rise k (after - 1) (omega arith) (omega arith)))
        (cases_eq k (after - 1))))
        (λ more. above k more lt ∙ sym (above-below cut (cut_place cuts k) (a.rise (after - 1) k (omega arith) lt)))
        (cases_lt k after)

    below_cut : (k : ℕ) → k < length cuts → is_below x (cut_place cuts k) ≡ is_below cut (cut_place cuts k)
    below_cut k lt =
        ⊎_elim
        (λ less. at_most-not_below_itself (cut_place cuts k) x (upto k less)
        ∙ sym (at_most-not_below_itself (cut_place cuts k) cut (sym (at_cut k lt) ∙ upto k less)))
        (λ more. not_at_most-below (cut_place cuts k) x (above k more lt) ∙ sym (a.rise (after - 1) k (omega arith) lt))
        (cases_lt k after)

    pub cut_tells : (get_or cuts (after - 1) no_cut).sequence ≡ first_from 0 ss x
    cut_tells =
        a.right (after - 1) (omega arith)
        ∙ sym (same_first 0 ss x cut (λ i lt. (
        let s = get_or ss i no_span in
        let k = a.begins i lt in
        let m = a.ends i lt in
        ap₂ (λ (b c : Bool). s.rising && (b && c))
        (ap (λ p. is_at_most p x) (sym k.2) ∙ at_cut k.0 k.1 ∙ ap (λ p. is_at_most p cut) k.2)
        (ap (is_below x) (sym m.2) ∙ below_cut m.0 m.1 ∙ ap (is_below cut) m.2))))

-- no span covers x
none_among : (n k : ℕ) (ss : List (List Row)) (x : Place) → first_from n (spans_from k ss) x ≡ None
    → answer_among ss x ≡ None
none_among n k [] x none = refl
none_among n k (s ∷ ss) x none =
    among_next s ss x
    ∙ elim (answers_for x s) as (λ b. (if b then Some n else first_from (suc n) (spans_from (k + length s) ss) x) ≡ None
    → (if b then last_upto x s else answer_among ss x) ≡ None) [
      | true ↦ λ h. cc
      | false ↦ λ h. none_among (suc n) (k + length s) ss x h
    ] none

pub no_answer : (rows : List Row) (x : Place) → first_from 0 (spans rows) x ≡ None → None ≡ answer rows x
no_answer rows x none = sym (none_among 0 0 (sequences rows) x none)

at_least : (n m : ℕ) (ss : List Span) (x : Place) → first_from n ss x ≡ Some m → n ≤ m
at_least n m [] x h = cc
at_least n m (s ∷ ss) x h =
    elim (covers_span x s) as (λ b. (if b then Some n else first_from (suc n) ss x) ≡ Some m → n ≤ m) [
      | true ↦ λ e. (let z : n ≡ m = cc in omega arith)
      | false ↦ λ e. (let z = at_least (suc n) m ss x e in omega arith)
    ] h

-- the span i is the first that covers x
record Covering (k : ℕ) (ss : List (List Row)) (x : Place) (i : ℕ) : Type 0 where
  within : i < length ss
  others : answer_among ss x ≡ answer_among (drop i ss) x
  covers : covers_span x (get_or (spans_from k ss) i no_span) ≡ true

covering : (n k m : ℕ) (ss : List (List Row)) (x : Place) (i : ℕ) → m ≡ n + i
    → first_from n (spans_from k ss) x ≡ Some m → Covering k ss x i
covering n k m [] x i is h = cc
covering n k m (s ∷ ss) x zero is h =
    elim (answers_for x s) as (λ b. answers_for x s ≡ b
    → (if b then Some n else first_from (suc n) (spans_from (k + length s) ss) x) ≡ Some m
    → Covering k (s ∷ ss) x 0) [
      | true ↦ λ e h. record { within = omega arith; others = refl; covers = e }
      | false ↦ λ e h. absurd (let z = at_least (suc n) m (spans_from (k + length s) ss) x h in omega arith)
    ] refl h
covering n k m (s ∷ ss) x (suc i) is h =
    elim (answers_for x s) as (λ b. answers_for x s ≡ b
    → (if b then Some n else first_from (suc n) (spans_from (k + length s) ss) x) ≡ Some m
    → Covering k (s ∷ ss) x (suc i)) [
      | true ↦ λ e h. absurd (let z : n ≡ m = cc in omega arith)
      | false ↦ λ e h. (let rest = covering (suc n) (k + length s) m ss x i (omega arith) h in
          record {
            within = let q = rest.within in omega arith;
            others =
                among_next s ss x ∙ ap (λ (b : Bool). if b then last_upto x s else answer_among ss x) e ∙ rest.others;
            covers = rest.covers;
          })
    ] refl h

-- as after probes of the sequences before it
module _ (rows : List Row) (x : Place) (i : ℕ) (first : first_from 0 (spans rows) x ≡ Some i) where
  abbrev here : Covering 0 (sequences rows) x i
  here = covering 0 0 i (sequences rows) x i (omega arith) first

  pub within_sequences : i < length (sequences rows)
  within_sequences = here.within

  pub within_spans : i < length (spans rows)
  within_spans = let h = here.within in omega (arith, length-spans rows)

  pub covers_here : covers_span x (get_or (spans rows) i no_span) ≡ true
  covers_here = here.covers

  pub passed_before : Passed rows rows x i i
  passed_before =
      record { same = refl; others = here.others; count = refl; within = let h = here.within in omega arith }

-- what is kept of the rows, and a look at the cuts
module _ (rows : List Row) (kept : List Span) (cuts seen : List Cut) (x : Place) (after : ℕ) (is : kept ≡ spans rows)
    (are : AreCuts kept cuts) (same : seen ≡ cuts) (within : after ≤ length seen)
    (upto : (k : ℕ) → k < after → is_at_most (cut_place seen k) x ≡ true)
    (above : (k : ℕ) → after ≤ k → k < length seen → is_at_most (cut_place seen k) x ≡ false) where
  abbrev are_seen : AreCuts (spans rows) seen
  are_seen = subst (λ l. AreCuts (spans rows) l) (sym same) (subst (λ l. AreCuts l cuts) is are)

  pub none_below : after ≡ 0 → None ≡ answer rows x
  none_below none = no_answer rows x (none_covers (spans rows) seen are_seen x after within upto above none)

  module _ (some : 0 < after) (cut : Cut) (read : cut ≡ get_or cuts (after - 1) cut) where
    tells : cut.sequence ≡ first_from 0 (spans rows) x
    tells =
        ap (λ (c : Cut). c.sequence) (get_or_read cuts (after - 1) cut (omega (arith, ap length same)) read no_cut)
        ∙ ap (λ l. (get_or l (after - 1) no_cut).sequence) (sym same)
        ∙ cut_tells (spans rows) seen are_seen x after within upto above some

    pub none_there : cut.sequence ≡ None → None ≡ answer rows x
    none_there none = no_answer rows x (sym tells ∙ none)

    module _ (i : ℕ) (one : cut.sequence ≡ Some i) where
      first : first_from 0 (spans rows) x ≡ Some i
      first = sym tells ∙ one

      pub span_within : i < length kept
      span_within = omega (arith, within_spans rows x i first, ap length is)

      pub found : (span : Span) → span ≡ get_or kept i span → (new : List Row) → new ≡ rows
          → Hit rows new x span.start span.len
      found span read_span new now =
          let span_is = read_span ∙ ap (λ l. get_or l i span) is in
          let covers =
          ap (covers_span x) (get_or_read (spans rows) i span (within_spans rows x i first) span_is no_span)
          ∙ covers_here rows x i first in
          hit rows rows new x i i (passed_before rows x i first) (within_sequences rows x i first) span span_is now
          covers
