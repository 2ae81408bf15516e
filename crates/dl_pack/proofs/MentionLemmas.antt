-- Numbers of items in the order of first mention, and one more.
use Rattle.std.proofs.Common.{◌≡◌, ℕ, zero, suc, ◌+◌, ◌<◌, ◌≤◌, ◌^◌, Bool, get_or, length-append, true, false, List, [], ◌∷◌, ◌++◌, length}
use Rattle.std.proofs.Common.{arith, refl, sym, ap, ap₂, subst, add-one, length-set, ◌∙◌, eqb, get_or-set_other, get_or-set_same}
use Rattle.std.specs.Prelude.{if◌then◌else◌, slice_index, slice_set}
use Rattle.std.specs.List.{All}
use Rattle.std.proofs.lemmas.Bool.{eqb-true, eqb-false, eq-eqb, ne_eqb}
use Rattle.std.proofs.lemmas.List.Elements.{All-head, All-tail, All-push}
use Rattle.std.proofs.lemmas.List.Sums.{sum_by-set}
use Rattle.dl_pack.specs.Faults.{AreTooMany}
use Rattle.dl_pack.specs.Numbering.{one_more, number_in, with_mention}
use Rattle.dl_pack.specs.Unnumbered.{unnumbered, unnumbered_count}

one_more-zero : (n : ℕ) → one_more n ≡ 0 → n ≡ 0
one_more-zero zero e = refl
one_more-zero (suc n) e = omega arith

new_cases : (b : Bool) (first item : ℕ) (order : List ℕ)
    → (number_in order item ≡ 0 → number_in (order ++ item ∷ []) item ≡ length order + 1)
    → (if b then 1 else one_more (number_in order item)) ≡ 0
    → (if b then 1 else one_more (number_in (order ++ item ∷ []) item)) ≡ suc (length order) + 1
new_cases true first item order rest none = absurd (omega arith)
new_cases false first item order rest none =
    ap one_more (rest (one_more-zero (number_in order item) none)) ∙ ap one_more (add-one (length order)) ∙ omega arith

pub number_new : (order : List ℕ) (item : ℕ) → number_in order item ≡ 0
    → number_in (order ++ item ∷ []) item ≡ length order + 1
number_new [] item none = ap (λ (b : Bool). if b then 1 else 0) (eq-eqb item item refl)
number_new (first ∷ order) item none = new_cases (eqb first item) first item order (number_new order item) none

pub number_old : (order : List ℕ) (item j : ℕ) → (item ≡ j → ⊥)
    → number_in (order ++ item ∷ []) j ≡ number_in order j
number_old [] item j ne = ap (λ (b : Bool). if b then 1 else 0) (ne_eqb item j ne)
number_old (first ∷ order) item j ne =
    ap (λ n. if eqb first j then 1 else one_more n) (number_old order item j ne)

right_at : (numbers order : List ℕ) (item number j : ℕ) (b : Bool) → eqb item j ≡ b → number ≡ length order + 1
    → slice_index numbers item ≡ 0 → item < length numbers
    → ((j : ℕ) → j < length numbers → slice_index numbers j ≡ number_in order j)
    → j < length (slice_set numbers item number)
    → slice_index (slice_set numbers item number) j ≡ number_in (order ++ item ∷ []) j
right_at numbers order item number j true same is none within right lt =
    let e : item ≡ j = eqb-true item j same in
    subst (λ j. slice_index (slice_set numbers item number) j ≡ number_in (order ++ item ∷ []) j) e
    (get_or-set_same numbers item number 0 within ∙ is ∙ sym (number_new order item (sym (right item within) ∙ none)))
right_at numbers order item number j false other is none within right lt =
    get_or-set_other numbers item j number 0 (λ e. eqb-false item j other (sym e))
    ∙ right j (omega (arith, length-set numbers item number)) ∙ sym (number_old order item j (eqb-false item j other))

pub right_more : (numbers order after : List ℕ) (item number : ℕ) → after ≡ order ++ item ∷ [] → number ≡ length order + 1
    → slice_index numbers item ≡ 0 → item < length numbers
    → ((j : ℕ) → j < length numbers → slice_index numbers j ≡ number_in order j)
    → (j : ℕ) → j < length (slice_set numbers item number)
    → slice_index (slice_set numbers item number) j ≡ number_in after j
right_more numbers order after item number e is none within right j lt =
    right_at numbers order item number j (eqb item j) refl is none within right lt ∙ ap (λ o. number_in o j) (sym e)

pub within_more : (order after numbers : List ℕ) (item number : ℕ) → after ≡ order ++ item ∷ [] → item < length numbers
    → All (λ i. i < length numbers) order → All (λ i. i < length (slice_set numbers item number)) after
within_more order after numbers item number e lt within =
    subst (All (λ i. i < length (slice_set numbers item number))) (sym e)
    (subst (λ n. All (λ i. i < n) (order ++ item ∷ [])) (sym (length-set numbers item number))
    (All-push (λ i. i < length numbers) order item within lt))

-- what isn't below those that can be mentioned was not
pub number_outside : (order : List ℕ) (count item : ℕ) → All (λ i. i < count) order → count ≤ item → number_in order item ≡ 0
number_outside [] count item within le = refl
number_outside (first ∷ order) count item within le =
    let less : first < count = All-head (λ i. i < count) first order within in
    let ne : first ≡ item → ⊥ = λ e. omega arith in
    ap₂ (λ (b : Bool) n. if b then 1 else one_more n) (ne_eqb first item ne)
    (number_outside order count item (All-tail (λ i. i < count) first order within) le)

-- ---- how many have no number

unnumbered_not : (number : ℕ) → 1 ≤ number → unnumbered number ≡ 0
unnumbered_not zero some = absurd (omega arith)
unnumbered_not (suc n) some = ap (λ (b : Bool). if b then 1 else 0) (ne_eqb (suc n) 0 (λ e. omega (arith, e)))

module _ (numbers : List ℕ) (item : ℕ) (lt : item < length numbers) (none : slice_index numbers item ≡ 0) where
  one_less : (number : ℕ) → 1 ≤ number → unnumbered_count (slice_set numbers item number) + 1 ≡ unnumbered_count numbers
  one_less number some =
      let was : unnumbered (get_or numbers item 0) ≡ 1 = ap unnumbered none in
      omega (arith, sum_by-set unnumbered numbers item number 0 lt, was, unnumbered_not number some)

  module _ (order : List ℕ) (counted : length order + unnumbered_count numbers ≡ length numbers) where
    -- there is room for the item's place
    pub room_for : length order + 1 ≤ length numbers
    room_for = omega (arith, one_less 1 (omega arith), counted)

    pub counted_more : (after : List ℕ) (number : ℕ) → after ≡ order ++ item ∷ [] → number ≡ length order + 1
        → length after + unnumbered_count (slice_set numbers item number) ≡ length (slice_set numbers item number)
    counted_more after number e is =
        let more : length after ≡ length order + 1 = ap length e ∙ length-append order (item ∷ []) in
        omega (arith, one_less number (omega (arith, is)), counted, length-set numbers item number, more)

-- an item more is one too many
pub many_more : (order : List ℕ) (item : ℕ) → number_in order item ≡ 0 → 2 ^ 32 ≤ length order + 1
    → AreTooMany (with_mention order item)
many_more order item none many =
    subst AreTooMany (sym (ap (λ (b : Bool). if b then order ++ item ∷ [] else order) (eq-eqb (number_in order item) 0 none)))
    (omega (arith, length-append order (item ∷ []), many))
