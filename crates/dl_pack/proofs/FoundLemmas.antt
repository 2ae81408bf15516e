-- Where items stand in the order of first mention.
use Rattle.std.proofs.Common.{◌≡◌, ℕ, zero, suc, ◌<◌, ◌≤◌, Bool, true, false, List, [], ◌∷◌, ◌++◌, length, get_or}
use Rattle.std.proofs.Common.{refl, ap, arith, eqb}
use Rattle.std.specs.Prelude.{if◌then◌else◌}
use Rattle.std.specs.List.{All}
use Rattle.std.proofs.lemmas.Bool.{eqb-true, eqb-false}
use Rattle.std.proofs.lemmas.List.Elements.{All-cons}
use Rattle.dl_pack.specs.Numbering.{one_more, number_in, with_mention, mentioned}
use Rattle.dl_pack.proofs.MentionLemmas.{number_new, number_old}

-- an item has this number, counted from 0, in an order
pub record Stands (order : List ℕ) (item j : ℕ) : Type 0 where
  pub within : j < length order
  pub at : get_or order j 0 ≡ item

more_cases : (first item : ℕ) (order : List ℕ) (n j : ℕ) → ((i : ℕ) → n ≡ suc i → Stands order item i)
    → one_more n ≡ suc j → Stands (first ∷ order) item j
more_cases first item order zero j rest e = absurd (omega arith)
more_cases first item order (suc i) j rest e =
    let s : Stands order item i = rest i refl in
    let is : j ≡ suc i = omega arith in
    rw is (record { within = omega (arith, s.within); at = s.at })

place_cases : (b : Bool) (first item : ℕ) (order : List ℕ) (j : ℕ) → eqb first item ≡ b
    → ((i : ℕ) → number_in order item ≡ suc i → Stands order item i)
    → (if b then 1 else one_more (number_in order item)) ≡ suc j → Stands (first ∷ order) item j
place_cases true first item order j same rest e =
    let is : j ≡ 0 = omega arith in rw is (record { within = omega arith; at = eqb-true first item same })
place_cases false first item order j other rest e = more_cases first item order (number_in order item) j rest e

-- an item stands at the place before its number
pub number_stands : (order : List ℕ) (item j : ℕ) → number_in order item ≡ suc j → Stands order item j
number_stands [] item j e = absurd (omega arith)
number_stands (first ∷ order) item j e =
    place_cases (eqb first item) first item order j refl (λ i. number_stands order item i) e

upto_cases : (b : Bool) (n len : ℕ) → n ≤ len → (if b then 1 else one_more n) ≤ suc len
upto_cases true n len le = omega arith
upto_cases false zero len le = omega arith
upto_cases false (suc n) len le = omega arith

pub number_upto : (order : List ℕ) (item : ℕ) → number_in order item ≤ length order
number_upto [] item = omega arith
number_upto (first ∷ order) item =
    upto_cases (eqb first item) (number_in order item) (length order) (number_upto order item)

-- an item stays mentioned as others are
kept_cases : (b : Bool) (order : List ℕ) (item j : ℕ) → eqb (number_in order item) 0 ≡ b → 1 ≤ number_in order j
    → 1 ≤ number_in (if b then order ++ item ∷ [] else order) j
kept_cases true order item j new some =
    let none : number_in order item ≡ 0 = eqb-true (number_in order item) 0 new in
    let other : item ≡ j → ⊥ = λ e. (let same : number_in order item ≡ number_in order j = ap (number_in order) e in omega arith) in
    rw (number_old order item j other) some
kept_cases false order item j old some = some

kept : (order : List ℕ) (item j : ℕ) → 1 ≤ number_in order j → 1 ≤ number_in (with_mention order item) j
kept order item j some = kept_cases (eqb (number_in order item) 0) order item j refl some

pub all_kept : (order items : List ℕ) (j : ℕ) → 1 ≤ number_in order j → 1 ≤ number_in (mentioned order items) j
all_kept order [] j some = some
all_kept order (item ∷ items) j some = all_kept (with_mention order item) items j (kept order item j some)

added_cases : (b : Bool) (order : List ℕ) (item : ℕ) → eqb (number_in order item) 0 ≡ b
    → 1 ≤ number_in (if b then order ++ item ∷ [] else order) item
added_cases true order item new =
    omega (arith, number_new order item (eqb-true (number_in order item) 0 new))
added_cases false order item old =
    let some : number_in order item ≡ 0 → ⊥ = eqb-false (number_in order item) 0 old in omega arith

pub added : (order : List ℕ) (item : ℕ) → 1 ≤ number_in (with_mention order item) item
added order item = added_cases (eqb (number_in order item) 0) order item refl

-- those that were mentioned have numbers
pub all_added : (order items : List ℕ) → All (λ item. 1 ≤ number_in (mentioned order items) item) items
all_added order [] = λ k d lt. absurd (omega arith)
all_added order (item ∷ items) =
    let first : 1 ≤ number_in (with_mention order item) item = added_cases (eqb (number_in order item) 0) order item refl in
    All-cons (λ i. 1 ≤ number_in (mentioned (with_mention order item) items) i) item items
    (all_kept (with_mention order item) items item first) (all_added (with_mention order item) items)
