-- The last stretch that doesn't begin above an address.
use Rattle.std.proofs.Common.{◌≡◌, ℕ, zero, suc, ◌+◌, ◌-◌, ◌<◌, ◌≤◌, List, [], ◌∷◌, ◌++◌, map, reverse, nat_le, Option, Some, None, IfSome, refl, sym, ap, subst, ◌∙◌, arith, ⊎_elim, add-one}
use Rattle.std.specs.List.{find, range_with_len}
use Rattle.std.specs.Option.{option_and_then, option_map}
use Rattle.std.proofs.lemmas.List.{reverse-append}
use Rattle.std.proofs.lemmas.List.FromFn.{map-range_with_len_more}
use Rattle.std.proofs.lemmas.Bool.{cases_eq}
use Rattle.std.proofs.lemmas.Bool.Decides.{nat_tests}
use Rattle.dl_index.specs.Layout.{base_in, count_in, start_in}
use Rattle.dl_index.specs.LookUp.{Rise, IsLastUpto}
use Rattle.dl_index.specs.Shown.{told}
use Rattle.dl_index.specs.declared.index.FoundLine.{FoundLine}
use Rattle.dl_index.specs.Stretches.{Stretch}
use Rattle.dl_index.specs.Telling.{stretch_in, told_in, find_in}

module _ (f : ℕ → Stretch) (a : ℕ) where
  abbrev last : List Stretch → Option Stretch
  last = find (λ s. nat_le s.start a)

  abbrev first : ℕ → List Stretch
  first n = map f (range_with_len 0 n)

  one_more : (n : ℕ) → reverse (first (suc n)) ≡ f n ∷ reverse (first n)
  one_more n =
      let e : 0 + n ≡ n = omega arith in
      let more : first (suc n) ≡ first n ++ f n ∷ [] =
      ap first (sym (add-one n)) ∙ map-range_with_len_more f 0 n n e in
      ap reverse more ∙ reverse-append (first n) (f n ∷ [])

  is_upto : (s : Stretch) (rest : List Stretch) → s.start ≤ a → last (s ∷ rest) ≡ Some s
  is_upto s rest below = grind (arith, nat_tests)

  is_above : (s : Stretch) (rest : List Stretch) → a < s.start → last (s ∷ rest) ≡ last rest
  is_above s rest above = grind (arith, nat_tests)

  pub last_is : (n k : ℕ) → k < n → (f k).start ≤ a → ((j : ℕ) → k < j → j < n → a < (f j).start)
      → last (reverse (first n)) ≡ Some (f k)
  last_is zero k within upto above = absurd (omega arith)
  last_is (suc n) k within upto above =
      ap last (one_more n)
      ∙ ⊎_elim
      (λ here.
      is_upto (f n) (reverse (first n)) (subst (λ i. (f i).start ≤ a) here upto) ∙ ap (λ i. Some (f i)) (sym here))
      (λ ne.
      is_above (f n) (reverse (first n)) (above n (omega arith) (omega arith))
      ∙ last_is n k (omega arith) upto (λ j past less. above j past (omega arith)))
      (cases_eq k n)

  pub none_is : (n : ℕ) → ((j : ℕ) → j < n → a < (f j).start) → last (reverse (first n)) ≡ None
  none_is zero above = refl
  none_is (suc n) above =
      ap last (one_more n) ∙ is_above (f n) (reverse (first n)) (above n (omega arith))
      ∙ none_is n (λ j less. above j (omega arith))

module _ (b : List ℕ) (a : ℕ) where
  past_next : (k : ℕ) → IsLastUpto (start_in b) (count_in b) (a - base_in b) k → Rise (start_in b) (count_in b)
      → (j : ℕ) → k < j → j < count_in b → a < base_in b + start_in b j
  past_next k is rise j past less =
      let next = is.next (omega arith) in
      let above : a - base_in b < start_in b j =
      ⊎_elim
      (λ same. subst (λ i. a - base_in b < start_in b i) same next)
      (λ ne. (let r = rise (suc k) j (omega arith) less in omega arith))
      (cases_eq (suc k) j) in
      omega arith

  pub finds : (k : ℕ) → base_in b ≤ a → Rise (start_in b) (count_in b)
      → IsLastUpto (start_in b) (count_in b) (a - base_in b) k → find_in b a ≡ told_in b k
  finds k base rise is =
      let upto = is.upto in
      ap
      (option_and_then (λ (s : Stretch). s.told))
      (last_is (stretch_in b) a (count_in b) k is.within (omega arith) (λ j past less. past_next k is rise j past less))

  pub finds_nothing : a < base_in b → find_in b a ≡ None
  finds_nothing below =
      ap (option_and_then (λ (s : Stretch). s.told)) (none_is (stretch_in b) a (count_in b) (λ j less. omega arith))

  pub finds_none : count_in b ≡ 0 → find_in b a ≡ None
  finds_none none =
      ap
      (option_and_then (λ (s : Stretch). s.told))
      (none_is (stretch_in b) a (count_in b) (λ j less. absurd (omega arith)))

-- an answer is what a stretch tells
pub found_one : (b : List ℕ) (k : ℕ) (result : Option FoundLine) → k < count_in b → option_map told result ≡ told_in b k
    → IfSome result (λ found. (j : ℕ) × (j < count_in b) × (told_in b j ≡ Some (told found)))
found_one b k None within is = tt
found_one b k (Some found) within is = (k, within, sym is)
