-- Items of lists, and the least of places.
use Rattle.std.proofs.Common.{◌≡◌, ◌∙◌, Bool, true, false, ◌⊎◌, inl, inr, List, [], ◌∷◌, Some, None}
use Rattle.std.proofs.Common.{refl, sym, ap, subst, ⊎_elim}
use Rattle.std.specs.Prelude.{◌&&◌, cond}
use Rattle.std.specs.List.{filter, find, list_all}
use Rattle.std.proofs.lemmas.Bool.{and_parts}
use Rattle.dl_look.specs.declared.place.Place.{Place}
use Rattle.dl_look.specs.Answer.{is_at_most}
use Rattle.dl_sequence_rules.specs.Overlaps.{least}
use Rattle.dl_sequence_rules.proofs.PlaceLemmas.{both_at_most, at_most_itself, either_at_most, at_most_after}

-- x stands in the list
abbrev pub In : Place → List Place → Type 0
In x [] = ⊥
In x (y ∷ ys) = (y ≡ x) ⊎ In x ys

pub all_in : (p : Place → Bool) (xs : List Place) → ((y : Place) → In y xs → p y ≡ true) → list_all p xs ≡ true
all_in p [] all = refl
all_in p (x ∷ xs) all =
    ap (λ b. b && list_all p xs) (all x (inl refl)) ∙ all_in p xs (λ y at. all y (inr at))

pub in_all : (p : Place → Bool) (xs : List Place) → list_all p xs ≡ true → (y : Place) → In y xs → p y ≡ true
in_all p [] all y at = absurd at
in_all p (x ∷ xs) all y at =
    let parts = and_parts (p x) (list_all p xs) all in
    ⊎_elim (λ here. ap p (sym here) ∙ parts.0) (λ later. in_all p xs parts.1 y later) at

pub in_filter : (p : Place → Bool) (xs : List Place) (y : Place) → In y xs → p y ≡ true → In y (filter p xs)
in_filter p [] y at holds = absurd at
in_filter p (x ∷ xs) y at holds =
    ⊎_elim
    (λ here. subst (λ (b : Bool). In y (cond b (x ∷ filter p xs) (filter p xs))) (sym (ap p here ∙ holds)) (inl here))
    (λ later. (let rest = in_filter p xs y later holds in
    elim (p x) as (λ b. In y (cond b (x ∷ filter p xs) (filter p xs))) [ true ↦ inr rest | false ↦ rest ]))
    at

pub filter_in : (p : Place → Bool) (xs : List Place) (y : Place) → In y (filter p xs) → In y xs × (p y ≡ true)
filter_in p [] y at = absurd at
filter_in p (x ∷ xs) y at =
    elim (p x) as (λ b. p x ≡ b → In y (cond b (x ∷ filter p xs) (filter p xs)) → In y (x ∷ xs) × (p y ≡ true)) [
      | true ↦ λ e at. ⊎_elim
          (λ here. (inl here, ap p (sym here) ∙ e))
          (λ later. (let rest = filter_in p xs y later in (inr rest.0, rest.1)))
          at
      | false ↦ λ e at. (let rest = filter_in p xs y at in (inr rest.0, rest.1))
    ] refl at

pub filter_none : (p : Place → Bool) (xs : List Place) → ((y : Place) → In y xs → p y ≡ false) → filter p xs ≡ []
filter_none p [] none = refl
filter_none p (x ∷ xs) none =
    ap (λ b. cond b (x ∷ filter p xs) (filter p xs)) (none x (inl refl)) ∙ filter_none p xs (λ y at. none y (inr at))

find_in : (p : Place → Bool) (xs : List Place) (y : Place) → find p xs ≡ Some y → In y xs × (p y ≡ true)
find_in p [] y is = cc
find_in p (x ∷ xs) y is =
    elim (p x) as (λ b. p x ≡ b → cond b (Some x) (find p xs) ≡ Some y → In y (x ∷ xs) × (p y ≡ true)) [
      | true ↦ λ e is. (let here : x ≡ y = cc in (inl here, ap p (sym here) ∙ e))
      | false ↦ λ e is. (let rest = find_in p xs y is in (inr rest.0, rest.1))
    ] refl is

find_none : (p : Place → Bool) (xs : List Place) → find p xs ≡ None → (y : Place) → In y xs → p y ≡ false
find_none p [] is y at = absurd at
find_none p (x ∷ xs) is y at =
    elim (p x) as (λ b. p x ≡ b → cond b (Some x) (find p xs) ≡ None → p y ≡ false) [
      | true ↦ λ e is. cc
      | false ↦ λ e is. ⊎_elim (λ here. ap p (sym here) ∙ e) (λ later. find_none p xs is y later) at
    ] refl is

-- the first that is above none of all
first_found : (all xs : List Place) (p : Place) → In p xs → ((y : Place) → In y all → is_at_most p y ≡ true)
    → ((y : Place) → In y xs → In y all) → In p all → find (λ x. list_all (is_at_most x) all) xs ≡ Some p
first_found all [] p at low within whole = absurd at
first_found all (x ∷ xs) p at low within whole =
    let test = λ (x : Place). list_all (is_at_most x) all in
    elim (test x) as (λ b. test x ≡ b → cond b (Some x) (find test xs) ≡ Some p) [
      | true ↦ λ e. ap (λ (q : Place). Some q) (both_at_most x p (in_all (is_at_most x) all e p whole) (low x (within x (inl refl))))
      | false ↦ λ e. ⊎_elim
          (λ here. absurd (let t = all_in (is_at_most p) all low in let u = ap test here in cc))
          (λ later. first_found all xs p later low (λ y here. within y (inr here)) whole)
          at
    ] refl

pub least_is : (xs : List Place) (p : Place) → In p xs → ((y : Place) → In y xs → is_at_most p y ≡ true) → least xs ≡ Some p
least_is xs p at low = first_found xs xs p at low (λ y here. here) at

pub is_least : (xs : List Place) (p : Place) → least xs ≡ Some p
    → In p xs × ((y : Place) → In y xs → is_at_most p y ≡ true)
is_least xs p is =
    let found = find_in (λ x. list_all (is_at_most x) xs) xs p is in
    (found.0, λ y at. in_all (is_at_most p) xs found.1 y at)

-- some place has one
some_least : (x : Place) (xs : List Place) → (p : Place) × In p (x ∷ xs) × ((y : Place) → In y (x ∷ xs) → is_at_most p y ≡ true)
some_least x [] = (x, inl refl, λ y at. ⊎_elim (λ here. subst (λ q. is_at_most x q ≡ true) here (at_most_itself x)) (λ none. absurd none) at)
some_least x (z ∷ xs) =
    let rest = some_least z xs in
    ⊎_elim
    (λ le. (
      x,
      inl refl,
      λ y at. ⊎_elim
          (λ here. subst (λ q. is_at_most x q ≡ true) here (at_most_itself x))
          (λ later. at_most_after x rest.0 y le (rest.2 y later)) at,
    ))
    (λ ge. (
      rest.0,
      inr rest.1,
      λ y at. ⊎_elim
          (λ here. subst (λ q. is_at_most rest.0 q ≡ true) here ge)
          (λ later. rest.2 y later) at,
    ))
    (either_at_most x rest.0)

pub least_none : (xs : List Place) → least xs ≡ None → (y : Place) → In y xs → ⊥
least_none [] is y at = at
least_none (x ∷ xs) is y at =
    let some = some_least x xs in
    let e = least_is (x ∷ xs) some.0 some.1 some.2 in
    cc
