-- Places in order, each with its number.
use Rattle.std.proofs.Common.{◌≡◌, ℕ, zero, suc, ◌+◌, ◌-◌, ◌<◌, ◌≤◌, true, false, cond, eqb, List, length, get_or, set}
use Rattle.std.proofs.Common.{swap, IsPermutation, All, arith, refl, sym, ap, subst, ◌∙◌, length-set, get_or-set_same}
use Rattle.std.proofs.Common.{get_or-set_other}
use Rattle.std.proofs.lemmas.Bool.{eqb-true, eqb-false}
use Rattle.std.proofs.lemmas.Bool.Decides.{nat_tests}
use Rattle.std.proofs.lemmas.List.{get_or_default}
use Rattle.std.proofs.lemmas.List.Edits.{swap_is}
use Rattle.std.proofs.lemmas.List.Sorted.{IsPermutation-keeps, All-permutation, Contains-permutation}
use Rattle.std.proofs.lemmas.List.Sorted.{length_permutation}
use Rattle.dl_look.specs.declared.place.Place.{Place}
use Rattle.dl_look.specs.declared.slots.Slot.{Slot}
use Rattle.dl_look.specs.Answer.{is_below, is_at_most}
use Rattle.dl_look.specs.Slots.{no_place, no_slot, slot_place, slot_number, IsRising, IsSlots}
use Rattle.dl_look.proofs.PlaceOrder.{at_most-itself, at_most-trans, at_most-below, at_most-not_below}

rising_far : (slots : List Slot)
    → ((k : ℕ) → k + 1 < length slots → is_at_most (slot_place slots k) (slot_place slots (k + 1)) ≡ true) → (i d : ℕ)
    → i + d < length slots → is_at_most (slot_place slots i) (slot_place slots (i + d)) ≡ true
rising_far slots step i zero h =
    let e : i ≡ i + 0 = omega arith in
    subst (λ j. is_at_most (slot_place slots i) (slot_place slots j) ≡ true) e (at_most-itself (slot_place slots i))
rising_far slots step i (suc d) h =
    let e : i + d + 1 ≡ i + suc d = omega arith in
    subst (λ j. is_at_most (slot_place slots i) (slot_place slots j) ≡ true) e
    (at_most-trans (slot_place slots i) (slot_place slots (i + d)) (slot_place slots (i + d + 1))
    (rising_far slots step i d (omega arith)) (step (i + d) (omega arith)))

rising : (slots : List Slot)
    → ((k : ℕ) → k + 1 < length slots → is_at_most (slot_place slots k) (slot_place slots (k + 1)) ≡ true)
    → IsRising slots
rising slots step i j le lt =
    let e : i + (j - i) ≡ j = omega arith in
    subst (λ k. is_at_most (slot_place slots i) (slot_place slots k)
    ≡ true) e (rising_far slots step i (j - i) (omega arith))

-- where an element stood before i and j were exchanged
abbrev seat : ℕ → ℕ → ℕ → ℕ
seat i j k = cond (eqb k j) i (cond (eqb k i) j k)

seat-within : (i j k n : ℕ) → i < n → j < n → k < n → seat i j k < n
seat-within i j k n a b c = grind (arith, nat_tests)

seat-once : (i j k m : ℕ) → seat i j k ≡ seat i j m → k ≡ m
seat-once i j k m e = grind (arith, nat_tests)

get_or-swap : (l : List Slot) (i j k : ℕ) → i < length l → j < length l
    → get_or (swap l i j) k no_slot ≡ get_or l (seat i j k) no_slot
get_or-swap l i j k a b =
    ap (λ s. get_or s k no_slot) (sym (swap_is l i j no_slot a b))
    ∙ elim (eqb k j) as (λ t. eqb k j ≡ t → get_or (set (set l i (get_or l j no_slot)) j (get_or l i no_slot)) k no_slot
    ≡ get_or l (cond t i (cond (eqb k i) j k)) no_slot) [
      | true ↦ λ t. (let e = eqb-true k j t in let n : j < length (set l i (get_or l j no_slot)) = omega (
        arith,
        length-set l i (get_or l j no_slot),
      ) in
          ap (λ p. get_or (set (set l i (get_or l j no_slot)) j (get_or l i no_slot)) p no_slot) e
          ∙ get_or-set_same (set l i (get_or l j no_slot)) j (get_or l i no_slot) no_slot n)
      | false ↦ λ t. get_or-set_other (set l i (get_or l j no_slot)) j k (get_or l i no_slot) no_slot (eqb-false k j t)
          ∙ elim (eqb k i) as (λ u. eqb k i ≡ u
          → get_or (set l i (get_or l j no_slot)) k no_slot ≡ get_or l (cond u j k) no_slot) [
            | true ↦ λ u. ap (λ p. get_or (set l i (get_or l j no_slot)) p no_slot) (eqb-true k i u)
                ∙ get_or-set_same l i (get_or l j no_slot) no_slot a
            | false ↦ λ u. get_or-set_other l i k (get_or l j no_slot) no_slot (eqb-false k i u)
          ] refl
    ] refl

record Once (n : ℕ) (l : List Slot) : Type 0 where
  count : length l ≡ n
  once : (a b : ℕ) → a < n → b < n → slot_number l a ≡ slot_number l b → a ≡ b

length-swap : (l : List Slot) (i j : ℕ) → i < length l → j < length l → length (swap l i j) ≡ length l
length-swap l i j a b =
    ap length (sym (swap_is l i j no_slot a b)) ∙ length-set (set l i (get_or l j no_slot)) j (get_or l i no_slot)
    ∙ length-set l i (get_or l j no_slot)

once-swap : (n : ℕ) (l : List Slot) (i j : ℕ) → i < length l → j < length l → Once n l → Once n (swap l i j)
once-swap n l i j a b o =
    let is = o.count in
    record {
      count = length-swap l i j a b ∙ o.count;
      once = λ k m lt lt' e. (let le : k < length l = omega arith in let le' : m < length l = omega arith in
          seat-once i j k m (o.once (seat i j k) (seat i j m) (seat-within i j k n (omega arith) (omega arith) lt)
          (seat-within i j m n (omega arith) (omega arith) lt') (
          ap (λ (s : Slot). s.number) (sym (get_or-swap l i j k a b)) ∙ e
          ∙ ap (λ (s : Slot). s.number) (get_or-swap l i j m a b)
          )));
    }

-- each place with its number, in another order
module _ (places : List Place) (slots sorted : List Slot) (count : length slots ≡ length places)
    (numbers : (j : ℕ) → j < length slots → slot_number slots j ≡ j)
    (at : (j : ℕ) → j < length slots → slot_place slots j ≡ get_or places j no_place)
    (permutation : IsPermutation slots sorted) where
  abbrev IsGiven : Slot → Type 0
  IsGiven s = (s.number < length places) × (s.place ≡ get_or places s.number no_place)

  given : All IsGiven sorted
  given =
      All-permutation IsGiven slots sorted permutation (λ k d lt.
      subst IsGiven (get_or_default slots k no_slot d lt) (
        subst (λ i. i < length places) (sym (numbers k lt)) (omega arith),
        at k lt ∙ ap (λ i. get_or places i no_place) (sym (numbers k lt)),
      ))

  sorted_count : length sorted ≡ length places
  sorted_count = length_permutation slots sorted permutation ∙ count

  pub in_order : ((k : ℕ) → k + 1 < length sorted → is_at_most (slot_place sorted k) (slot_place sorted (k + 1)) ≡ true)
      → IsSlots places sorted
  in_order step =
      let once = IsPermutation-keeps slots (Once (length slots)) (record {
        count = refl;
        once = λ a b lt lt' e. sym (numbers a lt) ∙ e ∙ numbers b lt';
      }) (once-swap (length slots)) sorted permutation in
      let is = sorted_count in
      record {
        count = sorted_count;
        rising = rising sorted step;
        numbered = record {
          within = λ j lt. subst (λ n. slot_number sorted j < n) (sym sorted_count) (given j no_slot lt).0;
          once = λ i j lt lt' e. once.once i j (omega arith) (omega arith) e;
        };
        place = λ j lt. (given j no_slot lt).1;
        each = λ i lt. (
            let lt' : i < length slots = omega arith in
            let found =
            Contains-permutation slots sorted (get_or slots i no_slot) permutation (
              i,
              lt',
              get_or_default slots i (get_or slots i no_slot) no_slot lt',
            ) in (
              found.0,
              found.1,
              ap (λ (s : Slot). s.number) (get_or_default sorted found.0 no_slot (get_or slots i no_slot) found.1
                  ∙ found.2) ∙ numbers i lt',
            ));
      }

-- a search between low and high, at a slot below the place and at one that isn't
pub goes_up : (slots : List Slot) (place : Place) (middle : ℕ) → IsRising slots → middle < length slots
    → is_below (slot_place slots middle) place ≡ true → (j : ℕ) → j < middle + 1
    → is_below (slot_place slots j) place ≡ true
goes_up slots place middle rises lt below j h =
    at_most-below (slot_place slots j) (slot_place slots middle) place (rises j middle (omega arith) lt) below

pub goes_down : (slots : List Slot) (place : Place) (middle : ℕ) → IsRising slots
    → is_below (slot_place slots middle) place ≡ false → (j : ℕ) → middle ≤ j → j < length slots
    → is_below (slot_place slots j) place ≡ false
goes_down slots place middle rises above j h lt =
    at_most-not_below (slot_place slots middle) (slot_place slots j) place (rises middle j h lt) above
