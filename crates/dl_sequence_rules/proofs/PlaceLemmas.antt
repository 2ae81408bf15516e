-- The order of places.
use Rattle.std.proofs.Common.{◌≡◌, ℕ, ◌≤◌, ◌⊎◌, inl, inr, true, false, ap₂, refl, arith}
use Rattle.std.proofs.lemmas.Bool.Decides.{nat_tests}
use Rattle.dl_look.specs.declared.place.Place.{Place}
use Rattle.dl_look.specs.Answer.{is_at_most, is_below}

-- what isn't above a place below another one is below that
pub below_before : (p q r : Place) → is_below p q ≡ true → is_below q r ≡ true → is_below p r ≡ true
below_before p q r a b = grind (arith, nat_tests)

pub address_before : (p q : Place) → is_below p q ≡ true → p.address ≤ q.address
address_before p q a = grind (arith, nat_tests)

pub upto_before : (p q r : Place) → is_below p q ≡ true → is_at_most q r ≡ true → is_at_most p r ≡ true
upto_before p q r a b = grind (arith, nat_tests)

pub at_most_itself : (p : Place) → is_at_most p p ≡ true
at_most_itself p = grind (arith, nat_tests)

pub at_most_after : (p q r : Place) → is_at_most p q ≡ true → is_at_most q r ≡ true → is_at_most p r ≡ true
at_most_after p q r a b = grind (arith, nat_tests)

pub at_most-not_below : (p q : Place) → is_at_most p q ≡ true → is_below q p ≡ false
at_most-not_below p q a = grind (arith, nat_tests)

pub below-not_at_most : (p q : Place) → is_below p q ≡ true → is_at_most q p ≡ false
below-not_at_most p q a = grind (arith, nat_tests)

pub below_after : (p q r : Place) → is_below p q ≡ true → is_at_most q r ≡ true → is_below p r ≡ true
below_after p q r a b = grind (arith, nat_tests)

pub not_below-at_most : (p q : Place) → is_below p q ≡ false → is_at_most q p ≡ true
not_below-at_most p q a = grind (arith, nat_tests)

pub below-at_most : (p q : Place) → is_below p q ≡ true → is_at_most p q ≡ true
below-at_most p q a = grind (arith, nat_tests)

pub at_most-below : (p q r : Place) → is_at_most p q ≡ true → is_below q r ≡ true → is_below p r ≡ true
at_most-below p q r a b = grind (arith, nat_tests)

same_address : (p q : Place) → is_at_most p q ≡ true → is_at_most q p ≡ true → p.address ≡ q.address
same_address p q a b = grind (arith, nat_tests)

same_op_index : (p q : Place) → is_at_most p q ≡ true → is_at_most q p ≡ true → p.op_index ≡ q.op_index
same_op_index p q a b = grind (arith, nat_tests)

pub both_at_most : (p q : Place) → is_at_most p q ≡ true → is_at_most q p ≡ true → p ≡ q
both_at_most p q a b =
    let h = same_address p q a b in
    let i = same_op_index p q a b in
    ap₂ (λ (a o : ℕ). record { address = a; op_index = o }) h i

pub either_at_most : (p q : Place) → (is_at_most p q ≡ true) ⊎ (is_at_most q p ≡ true)
either_at_most p q =
    elim (is_below q p) as (λ b. is_below q p ≡ b → (is_at_most p q ≡ true) ⊎ (is_at_most q p ≡ true)) [
      | true ↦ λ e. inr (below-at_most q p e)
      | false ↦ λ e. inl (not_below-at_most q p e)
    ] refl
