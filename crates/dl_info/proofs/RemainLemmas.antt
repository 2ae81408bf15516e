-- The attributes that are left of an abbreviation, one after the other.
use Rattle.std.proofs.Common.{◌≡◌, ℕ, suc, ◌+◌, ◌-◌, ◌<◌, ◌≤◌, true, false, List, [], ◌∷◌, length, Result, Ok, Err}
use Rattle.std.proofs.Common.{refl, sym, ap, subst, ◌∙◌, arith}
use Rattle.dl_info.specs.declared.front.FieldFault.{FieldFault}
use Rattle.dl_info.specs.declared.front.FieldFault.TheVariants.{Short}
use Rattle.dl_info.specs.declared.abbreviation.Attribute.{Attribute}
use Rattle.dl_info.specs.Front.{◌>>=◌}
use Rattle.dl_info.specs.Abbreviations.{attribute_at, attributes_at, attributes_in, first_of, is_end, HasEnd}

-- at most n attributes are left, which end, and of which this holds
pub record Remain (n : ℕ) (left : List ℕ) (P : List Attribute → Type 0) : Type 0 where
  pub attributes : List Attribute
  pub after : List ℕ
  pub are : attributes_at n left ≡ Ok (attributes, after)
  pub holds : P attributes

pub at_first : (P : List Attribute → Type 0) (attributes : List ℕ) → HasEnd attributes → P (attributes_in attributes)
    → Remain (length attributes - 0) attributes P
at_first P attributes end holds =
    let none : length attributes - 0 ≡ length attributes = omega arith in
    record {
      attributes = end.0;
      after = end.1;
      are = ap (λ n. attributes_at n attributes) none ∙ end.2;
      holds = subst P (ap first_of end.2) holds;
    }

abbrev with_first : Attribute → Result (List Attribute × List ℕ) FieldFault → Result (List Attribute × List ℕ) FieldFault
with_first a r = r >>= λ others. Ok (a ∷ others.0, others.1)

ok_parts : (a : Attribute) (x : List Attribute × List ℕ) (attributes : List Attribute) (after : List ℕ)
    → with_first a (Ok x) ≡ Ok (attributes, after)
    → (x.1 ≡ after) × (attributes ≡ a ∷ x.0)
ok_parts a x attributes after is =
    (ap rest_of is, sym (ap first_of is)) where
      rest_of : Result (List Attribute × List ℕ) FieldFault → List ℕ
      rest_of (Ok y) = y.1
      rest_of (Err s) = []

first_and_others : (a : Attribute) (r : Result (List Attribute × List ℕ) FieldFault) (attributes : List Attribute)
    (after : List ℕ) → with_first a r ≡ Ok (attributes, after)
    → (others : List Attribute) × (r ≡ Ok (others, after)) × (attributes ≡ a ∷ others)
first_and_others a (Ok x) attributes after is =
    let parts = ok_parts a x attributes after is in
    (x.0, ap (λ rest. Ok (x.0, rest)) parts.0, parts.1)
first_and_others a (Err s) attributes after is = absurd cc

-- what an attribute leaves
after_one : (n i : ℕ) (left others : List ℕ) (a : Attribute) → i < n → Ok (a, others) ≡ attribute_at left
    → is_end a ≡ false → attributes_at (n - i) left ≡ with_first a (attributes_at (n - (i + 1)) others)
unfolding attributes_at
after_one n i left others a less told other =
    let k : n - i ≡ suc (n - (i + 1)) = omega (arith, less) in
    rw (k, ← told, other) refl

after_end : (n i : ℕ) (left others : List ℕ) (a : Attribute) → i < n → Ok (a, others) ≡ attribute_at left
    → is_end a ≡ true → attributes_at (n - i) left ≡ Ok ([], others)
unfolding attributes_at
after_end n i left others a less told ends =
    let k : n - i ≡ suc (n - (i + 1)) = omega (arith, less) in
    rw (k, ← told, ends) refl

after_stop : (n i : ℕ) (left : List ℕ) (s : FieldFault) → i < n → Err s ≡ attribute_at left
    → attributes_at (n - i) left ≡ Err s
unfolding attributes_at
after_stop n i left s less stops =
    let k : n - i ≡ suc (n - (i + 1)) = omega (arith, less) in
    rw (k, ← stops) refl

none_left : (n i : ℕ) (left : List ℕ) → n ≤ i → attributes_at (n - i) left ≡ Err (Short 1)
unfolding attributes_at
none_left n i left past =
    let k : n - i ≡ 0 = omega (arith, past) in
    rw k refl

err_ok : {A : Type 0} (r : Result A FieldFault) (s : FieldFault) (x : A) → r ≡ Err s → r ≡ Ok x → ⊥
err_ok r s x e o = let both : Err s ≡ Ok x = sym e ∙ o in absurd cc

first_part : (x y : List Attribute × List ℕ) → ◌≡◌ {A = Result (List Attribute × List ℕ) FieldFault} (Ok x) (Ok y) → x.0 ≡ y.0
first_part x y is = ap first_of is

module _ (P : List Attribute → Type 0) (n i : ℕ) (left : List ℕ) (so_far : Remain (n - i) left P) where
  -- attributes that end aren't cut off
  pub never_stops : (s : FieldFault) → i < n → Err s ≡ attribute_at left → ⊥
  never_stops s less stops =
      err_ok (attributes_at (n - i) left) s (so_far.attributes, so_far.after) (after_stop n i left s less stops) so_far.are

  pub never_runs_out : n ≤ i → ⊥
  never_runs_out past =
      err_ok (attributes_at (n - i) left) (Short 1) (so_far.attributes, so_far.after) (none_left n i left past) so_far.are

  -- after the last one none is left
  pub at_end : (others : List ℕ) (a : Attribute) → i < n → Ok (a, others) ≡ attribute_at left → is_end a ≡ true → P []
  at_end others a less told ends =
      subst P
      (sym (first_part ([], others) (so_far.attributes, so_far.after)
      (sym (after_end n i left others a less told ends) ∙ so_far.are))) so_far.holds

  -- one of them, and then those that follow it
  pub one_less : (others : List ℕ) (a : Attribute) → i < n → Ok (a, others) ≡ attribute_at left → is_end a ≡ false
      → Remain (n - (i + 1)) others (λ attributes. P (a ∷ attributes))
  one_less others a less told other =
      let split =
      first_and_others a (attributes_at (n - (i + 1)) others) so_far.attributes so_far.after
      (sym (after_one n i left others a less told other) ∙ so_far.are) in
      record {
        attributes = split.0;
        after = so_far.after;
        are = split.1;
        holds = subst P split.2 so_far.holds;
      }

-- what follows of it holds too
pub remain_so : (P Q : List Attribute → Type 0) (n : ℕ) (left : List ℕ) → ((attributes : List Attribute) → P attributes → Q attributes)
    → Remain n left P → Remain n left Q
remain_so P Q n left so r = record {
  attributes = r.attributes;
  after = r.after;
  are = r.are;
  holds = so r.attributes r.holds;
}
