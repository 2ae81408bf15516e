-- Cuts that become stretches.
use Rattle.std.proofs.Common.{◌≡◌, ℕ, suc, ◌+◌, ◌-◌, ◌<◌, ◌≤◌, ◌^◌, Bool, true, false, List, [], ◌∷◌, length}
use Rattle.std.proofs.Common.{get_or, min, Some, None, arith, refl, sym, ap, ◌∙◌, inl, inr}
use Rattle.std.specs.Prelude.{if◌then◌else◌}
use Rattle.std.specs.List.{find}
use Rattle.std.specs.Option.{option_and_then}
use Rattle.std.proofs.lemmas.Bool.{cases_lt, cases_eq, lt-ltb, le-ltb, le-leb, lt-leb}
use Rattle.dl_look.specs.declared.place.Place.{Place}
use Rattle.dl_look.specs.declared.probed.Span.{Span}
use Rattle.dl_look.specs.declared.cuts.Cut.{Cut}
use Rattle.dl_look.specs.Answer.{is_at_most}
use Rattle.dl_look.specs.Cuts.{covers_span, first_from, no_cut, no_span, cut_place, AreCuts}
use Rattle.dl_look.proofs.CutAnswers.{none_covers, cut_tells}
use Rattle.dl_look.proofs.PlaceOrder.{below-is_at_most}
use Rattle.dl_stretch.specs.declared.run.Run.{Run}
use Rattle.dl_stretch.specs.declared.stretch.Stretch.{Stretch}
use Rattle.dl_stretch.specs.Made.{AreMade, cut_start}
use Rattle.dl_stretch.specs.Runs.{place_at, first_address, run_told_at}
use Rattle.dl_stretch.specs.Spans.{answer_of, runs_in}
use Rattle.dl_stretch.proofs.RunLemmas.{at_most_begun, rises_begun}
use Rattle.dl_stretch.proofs.StretchLemmas.{none_made, made_same}

-- ---- the first span that covers, by its number

first_none : (n : ℕ) (ss : List Span) (x : Place) → first_from n ss x ≡ None → find (covers_span x) ss ≡ None
first_none n [] x h = refl
first_none n (s ∷ ss) x h =
    elim (covers_span x s) as (λ b. (if b then Some n else first_from (suc n) ss x) ≡ None
    → (if b then Some s else find (covers_span x) ss) ≡ None) [
      | true ↦ λ e. cc
      | false ↦ λ e. first_none (suc n) ss x e
    ] h

record Found (n m : ℕ) (ss : List Span) (x : Place) : Type 0 where
  number : ℕ
  is : m ≡ n + number
  within : number < length ss
  found : find (covers_span x) ss ≡ Some (get_or ss number no_span)

first_some : (n m : ℕ) (ss : List Span) (x : Place) → first_from n ss x ≡ Some m → Found n m ss x
first_some n m [] x h = cc
first_some n m (s ∷ ss) x h =
    elim (covers_span x s) as (λ b. covers_span x s ≡ b → (if b then Some n else first_from (suc n) ss x) ≡ Some m
    → Found n m (s ∷ ss) x) [
      | true ↦ λ c e. (let z : n ≡ m = cc in record {
        number = 0;
        is = omega (arith, z);
        within = omega arith;
        found = ap (λ (b : Bool). if b then Some s else find (covers_span x) ss) c;
      })
      | false ↦ λ c e. (let rest = first_some (suc n) m ss x e in record {
        number = suc rest.number;
        is = let z = rest.is in omega (arith, z);
        within = let z = rest.within in omega (arith, z);
        found = ap (λ (b : Bool). if b then Some s else find (covers_span x) ss) c ∙ rest.found;
      })
    ] refl h

module _ (runs : List Run) (spans : List Span) where
  answer_none : (a : ℕ) → first_from 0 spans (place_at a) ≡ None → answer_of runs spans a ≡ None
  answer_none a h =
      ap (option_and_then (λ (s : Span). run_told_at (runs_in runs s) a)) (first_none 0 spans (place_at a) h)

  answer_some : (a i : ℕ) → first_from 0 spans (place_at a) ≡ Some i
      → answer_of runs spans a ≡ run_told_at (runs_in runs (get_or spans i no_span)) a
  answer_some a i h =
      let f = first_some 0 i spans (place_at a) h in
      let n : f.number ≡ i = (let z = f.is in omega (arith, z)) in
      ap (option_and_then (λ (s : Span). run_told_at (runs_in runs s) a)) f.found
      ∙ ap (λ j. run_told_at (runs_in runs (get_or spans j no_span)) a) n

  module _ (cuts : List Cut) (are : AreCuts spans cuts) where
    start_within : (k : ℕ) → k < length cuts → cut_start cuts k ≡ min (first_address (cut_place cuts k)) (2 ^ 64)
    start_within k lt =
        ap (λ (b : Bool). if b then min (first_address (cut_place cuts k)) (2 ^ 64) else 2 ^ 64)
        (lt-ltb k (length cuts) lt)

    pub start_past : (k : ℕ) → length cuts ≤ k → cut_start cuts k ≡ 2 ^ 64
    start_past k le =
        ap (λ (b : Bool). if b then min (first_address (cut_place cuts k)) (2 ^ 64) else 2 ^ 64)
        (le-ltb k (length cuts) le)

    start_upto : (k : ℕ) → cut_start cuts k ≤ 2 ^ 64
    start_upto k = elim (cases_lt k (length cuts)) [
      | inl lt ↦ (let e = start_within k lt in omega (arith, e))
      | inr le ↦ (let e = start_past k le in omega (arith, e))
    ]

    starts_rise : (j k : ℕ) → j < k → cut_start cuts j ≤ cut_start cuts k
    starts_rise j k less = elim (cases_lt k (length cuts)) [
      | inl lt ↦ (let e = start_within k lt in let d = start_within j (omega arith) in
          let h = rises_begun (cut_place cuts j) (cut_place cuts k)
          (below-is_at_most (cut_place cuts j) (cut_place cuts k) (are.rise j k less lt)) in omega (arith, d, e, h))
      | inr le ↦ (let e = start_past k le in let h = start_upto j in omega (arith, e, h))
    ]

    begun_cut : (a k : ℕ) → k < length cuts → cut_start cuts k ≤ a → a < 2 ^ 64
        → is_at_most (cut_place cuts k) (place_at a) ≡ true
    begun_cut a k lt le small =
        let e = start_within k lt in
        at_most_begun (cut_place cuts k) a
        ∙ le-leb (first_address (cut_place cuts k)) a (omega (arith, e, le, small))

    later_cut : (a k : ℕ) → k < length cuts → a < cut_start cuts k → is_at_most (cut_place cuts k) (place_at a) ≡ false
    later_cut a k lt less =
        let e = start_within k lt in
        at_most_begun (cut_place cuts k) a ∙ lt-leb (first_address (cut_place cuts k)) a (omega (arith, e, less))

    upto_here : (k a j : ℕ) → j < k + 1 → cut_start cuts k ≤ a → cut_start cuts j ≤ a
    upto_here k a j less from = elim (cases_eq j k) [
      | inl e ↦ (let h = ap (λ n. cut_start cuts n) e in omega (arith, h, from))
      | inr ne ↦ (let h = starts_rise j k (omega arith) in omega (arith, h, from))
    ]

    past_here : (k a j : ℕ) → k ≤ j → a < cut_start cuts k → a < cut_start cuts j
    past_here k a j le to = elim (cases_eq k j) [
      | inl e ↦ (let h = ap (λ n. cut_start cuts n) e in omega (arith, h, to))
      | inr ne ↦ (let h = starts_rise k j (omega arith) in omega (arith, h, to))
    ]

    -- the cut k tells the first span that covers the addresses from it on up to the next one
    tells : (k a : ℕ) → k < length cuts → cut_start cuts k ≤ a → a < cut_start cuts (k + 1)
        → (get_or cuts k no_cut).sequence ≡ first_from 0 spans (place_at a)
    tells k a lt from to =
        let small = start_upto (k + 1) in
        let e : k ≡ k + 1 - 1 = omega arith in
        ap (λ j. (get_or cuts j no_cut).sequence) e
        ∙ cut_tells spans cuts are (place_at a) (k + 1) (omega arith)
        (λ j less. begun_cut a j (omega arith) (upto_here k a j less from) (omega (arith, small, to)))
        (λ j le within. later_cut a j within (past_here (k + 1) a j le to)) (omega arith)

    pub none_first : AreMade (answer_of runs spans) [] (cut_start cuts 0)
    none_first =
        none_made (answer_of runs spans) (cut_start cuts 0) (λ a lt. answer_none a
        (none_covers spans cuts are (place_at a) 0 (omega arith) (λ j less. absurd (omega arith))
        (λ j le within. later_cut a j within (past_here 0 a j le lt)) refl))

    -- there is no address between the cut k and the next one
    pub none_between : (s : List Stretch) (k : ℕ) → cut_start cuts (k + 1) ≤ cut_start cuts k
        → AreMade (answer_of runs spans) s (cut_start cuts k)
        → AreMade (answer_of runs spans) s (cut_start cuts (k + 1))
    none_between s k le made =
        let h = starts_rise k (k + 1) (omega arith) in
        made_same (answer_of runs spans) s (cut_start cuts k) (cut_start cuts (k + 1)) made (omega (arith, h, le))

    pub within_spans : (k i : ℕ) → k < length cuts → (get_or cuts k no_cut).sequence ≡ Some i → i < length spans
    within_spans k i lt is =
        let f = first_some 0 i spans (cut_place cuts k) (sym (are.right k lt) ∙ is) in
        let n = f.is in let w = f.within in omega (arith, n, w)

    pub gap_between : (k a : ℕ) → k < length cuts → (get_or cuts k no_cut).sequence ≡ None → cut_start cuts k ≤ a
        → a < cut_start cuts (k + 1)
        → answer_of runs spans a ≡ None
    gap_between k a lt is from to = answer_none a (sym (tells k a lt from to) ∙ is)

    pub told_between : (k i a : ℕ) → k < length cuts → (get_or cuts k no_cut).sequence ≡ Some i → cut_start cuts k ≤ a
        → a < cut_start cuts (k + 1)
        → answer_of runs spans a ≡ run_told_at (runs_in runs (get_or spans i no_span)) a
    told_between k i a lt is from to = answer_some a i (sym (tells k a lt from to) ∙ is)
