-- The first element that passes a test.
use Rattle.std.proofs.Common.{◌≡◌, ◌∙◌, ℕ, ◌+◌, ◌-◌, ◌<◌, ◌≤◌, Bool, true, false, true≢false, ◌≢◌, List, [], ◌∷◌, ◌++◌, length, Option, Some, None}
use Rattle.std.proofs.Common.{refl, sym, ap, ap₂, arith, inl, inr, get_or, zero, suc}
use Rattle.std.specs.Prelude.{cond}
use Rattle.std.proofs.lemmas.Bool.{cases_Bool}
use Rattle.std.proofs.lemmas.List.Folds.{find-append}
use Rattle.std.specs.List.{filter, find, range_with_len}
use Rattle.std.specs.Option.{option_or}

abbrev front : {X : Type 0} → List X → Option X
front [] = None
front (x ∷ xs) = Some x

find_front : {X : Type 0} (q : X → Bool) (xs : List X) → find q xs ≡ front (filter q xs)
find_front q [] = refl
find_front q (x ∷ xs) = elim (cases_Bool (q x)) [
  | inl passes ↦ rw passes refl
  | inr fails ↦ rw fails (find_front q xs)
]

-- of lists with the same elements that pass, in the same order
pub same_find : {X : Type 0} (q : X → Bool) (xs ys : List X) → filter q ys ≡ filter q xs → find q ys ≡ find q xs
same_find q xs ys same = find_front q ys ∙ ap front same ∙ sym (find_front q xs)

pub none_of : {X : Type 0} (q : X → Bool) (xs : List X) → ((k : ℕ) (d : X) → k < length xs → q (get_or xs k d) ≡ false)
    → find q xs ≡ None
none_of q [] fails = refl
none_of q (x ∷ xs) fails =
    ap (λ b. cond b (Some x) (find q xs)) (fails 0 x (omega arith))
    ∙ none_of q xs (λ k d lt. fails (suc k) d (omega (arith, lt)))

pub first_at : {X : Type 0} (q : X → Bool) (xs : List X) (p : ℕ) (d : X) → p < length xs
    → ((k : ℕ) (e : X) → k < p → q (get_or xs k e) ≡ false) → q (get_or xs p d) ≡ true → find q xs ≡ Some (get_or xs p d)
first_at q [] p d lt before passes = absurd (omega (arith, lt))
first_at q (x ∷ xs) zero d lt before passes = ap (λ b. cond b (Some x) (find q xs)) passes
first_at q (x ∷ xs) (suc p) d lt before passes =
    ap (λ b. cond b (Some x) (find q xs)) (before 0 x (omega arith))
    ∙ first_at q xs p d (omega (arith, lt)) (λ k e less. before (suc k) e (omega (arith, less))) passes

-- ---- of numbers one after the other

pub found_within : (f : ℕ → Bool) (m n k : ℕ) → find f (range_with_len m n) ≡ Some k → (m ≤ k) × (k < m + n)
found_within f m zero k is = absurd cc
found_within f m (suc n) k is = elim (cases_Bool (f m)) [
  | inl passes ↦
      let e : Some m ≡ Some k = sym (ap (λ b. cond b (Some m) (find f (range_with_len (m + 1) n))) passes) ∙ is in
      let same : m ≡ k = cc in (omega (arith, same), omega (arith, same))
  | inr fails ↦
      let e : find f (range_with_len (m + 1) n) ≡ Some k =
      sym (ap (λ b. cond b (Some m) (find f (range_with_len (m + 1) n))) fails) ∙ is in
      let w = found_within f (m + 1) n k e in (omega (arith, w.0), omega (arith, w.1))
]

pub apart : (f : ℕ → Bool) (a b : ℕ) → f a ≡ false → f b ≡ true → a ≢ b
apart f a b fails passes same = true≢false (sym passes ∙ ap f (sym same) ∙ fails)

pub some_found : (f : ℕ → Bool) (m n i : ℕ) → m ≤ i → i < m + n → f i ≡ true → find f (range_with_len m n) ≡ None → ⊥
some_found f m zero i le lt passes none = omega (arith, le, lt)
some_found f m (suc n) i le lt passes none = elim (cases_Bool (f m)) [
  | inl first ↦
      let e : Some m ≡ None = sym (ap (λ b. cond b (Some m) (find f (range_with_len (m + 1) n))) first) ∙ none in cc
  | inr fails ↦
      let e : find f (range_with_len (m + 1) n) ≡ None =
      sym (ap (λ b. cond b (Some m) (find f (range_with_len (m + 1) n))) fails) ∙ none in
      let other : m ≢ i = apart f m i fails passes in
      some_found f (m + 1) n i (omega (arith, le, other)) (omega (arith, lt)) passes e
]

pub range-append : (m i j n k : ℕ) → n ≡ i + j → k ≡ m + i
    → range_with_len m n ≡ range_with_len m i ++ range_with_len k j
range-append m zero j n k all at =
    let e : n ≡ j = omega (arith, all) in
    let f : m ≡ k = omega (arith, at) in
    ap₂ range_with_len f e
range-append m (suc i) j zero k all at = absurd (omega (arith, all))
range-append m (suc i) j (suc n) k all at =
    ap (λ l. m ∷ l) (range-append (m + 1) i j n k (omega (arith, all)) (omega (arith, at)))

module _ (f : ℕ → Bool) (n i : ℕ) (le : i ≤ n) where
  cut : find f (range_with_len 0 n) ≡ option_or (find f (range_with_len 0 i)) (find f (range_with_len i (n - i)))
  cut =
      let whole : n ≡ i + (n - i) = omega (arith, le) in
      let here : i ≡ 0 + i = omega arith in
      ap (find f) (range-append 0 i (n - i) n i whole here)
      ∙ find-append f (range_with_len 0 i) (range_with_len i (n - i))

  -- the first of all is before a number, or it isn't
  pub first_before : (j : ℕ) → find f (range_with_len 0 n) ≡ Some j → j < i → Some j ≡ find f (range_with_len 0 i)
  first_before j is lt = by (find f (range_with_len 0 i)) refl where
    by : (o : Option ℕ) → find f (range_with_len 0 i) ≡ o → Some j ≡ o
    by (Some k) found = sym is ∙ cut ∙ ap (λ o. option_or o (find f (range_with_len i (n - i)))) found
    by None none =
        let later : find f (range_with_len i (n - i)) ≡ Some j =
        sym (ap (λ o. option_or o (find f (range_with_len i (n - i)))) none) ∙ sym cut ∙ is in
        absurd (omega (arith, lt, (found_within f i (n - i) j later).0))

  pub none_before : (j : ℕ) → find f (range_with_len 0 n) ≡ Some j → i ≤ j → None ≡ find f (range_with_len 0 i)
  none_before j is least = by (find f (range_with_len 0 i)) refl where
    by : (o : Option ℕ) → find f (range_with_len 0 i) ≡ o → None ≡ o
    by None none = refl
    by (Some k) found =
        let same : Some j ≡ Some k = sym is ∙ cut ∙ ap (λ o. option_or o (find f (range_with_len i (n - i)))) found in
        let e : j ≡ k = cc in
        absurd (omega (arith, least, e, (found_within f 0 i k found).1))

  pub none_at_all : find f (range_with_len 0 n) ≡ None → None ≡ find f (range_with_len 0 i)
  none_at_all none = by (find f (range_with_len 0 i)) refl where
    by : (o : Option ℕ) → find f (range_with_len 0 i) ≡ o → None ≡ o
    by None is = refl
    by (Some k) found =
        let clash : None ≡ Some k = sym none ∙ cut ∙ ap (λ o. option_or o (find f (range_with_len i (n - i)))) found in cc
