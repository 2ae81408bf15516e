-- The order of places.
use Rattle.std.proofs.Common.{◌≡◌, ◌&&◌, true, false, arith}
use Rattle.std.proofs.lemmas.Bool.Decides.{nat_tests}
use Rattle.dl_look.specs.Answer.{is_below, is_at_most}
use Rattle.dl_look.specs.declared.place.Place.{Place}

pub above-below : (p q : Place) → is_below p q ≡ true → is_at_most q p ≡ false
above-below p q h = grind (arith, nat_tests)

pub at_most-trans : (p q r : Place) → is_at_most p q ≡ true → is_at_most q r ≡ true → is_at_most p r ≡ true
at_most-trans p q r a b = grind (arith, nat_tests)

pub below_least : (p : Place) → is_below p (record { address = 0; op_index = 0 }) ≡ true → ⊥
below_least p h = grind (arith, nat_tests)

pub least_is_at_most : (p : Place) → is_at_most (record { address = 0; op_index = 0 }) p ≡ false → ⊥
least_is_at_most p h = grind (arith, nat_tests)

pub not_between : (p q : Place) → (is_at_most p q && is_below q p) ≡ false
not_between p q = grind (arith, nat_tests)

pub at_most-below : (p q r : Place) → is_at_most p q ≡ true → is_below q r ≡ true → is_below p r ≡ true
at_most-below p q r a b = grind (arith, nat_tests)

pub at_most-not_below : (p q r : Place) → is_at_most p q ≡ true → is_below p r ≡ false → is_below q r ≡ false
at_most-not_below p q r a b = grind (arith, nat_tests)

pub below-at_most : (p q r : Place) → is_below p q ≡ true → is_at_most q r ≡ true → is_below p r ≡ true
below-at_most p q r a b = grind (arith, nat_tests)

pub not_below-at_most : (p q : Place) → is_below p q ≡ false → is_at_most q p ≡ true
not_below-at_most p q a = grind (arith, nat_tests)

pub at_most-not_below_itself : (p q : Place) → is_at_most p q ≡ true → is_below q p ≡ false
at_most-not_below_itself p q a = grind (arith, nat_tests)

pub at_most-itself : (p : Place) → is_at_most p p ≡ true
at_most-itself p = grind (arith, nat_tests)

pub same_address : (p q : Place) → is_at_most p q ≡ true → is_below p q ≡ false → p.address ≡ q.address
same_address p q a b = grind (arith, nat_tests)

pub same_op_index : (p q : Place) → is_at_most p q ≡ true → is_below p q ≡ false → p.op_index ≡ q.op_index
same_op_index p q a b = grind (arith, nat_tests)

pub below-is_at_most : (p q : Place) → is_below p q ≡ true → is_at_most p q ≡ true
below-is_at_most p q a = grind (arith, nat_tests)

pub not_at_most-below : (p q : Place) → is_at_most p q ≡ false → is_below q p ≡ true
not_at_most-below p q a = grind (arith, nat_tests)
