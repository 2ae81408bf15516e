-- What stands after the last separator.
use Rattle.std.proofs.Common.{◌≡◌, ℕ, ◌<◌, zero, suc, Bool, true, false, List, [], ◌∷◌, length, drop, get_or, refl, ap}
use Rattle.std.proofs.Common.{◌∙◌, arith}
use Rattle.std.specs.Prelude.{if◌then◌else◌, ◌||◌}
use Rattle.std.specs.List.{list_any}
use Rattle.dl_path.specs.Shown.{after_the_last}

module _ (sep : ℕ → Bool) where
  pub after_none : (path : List ℕ) → list_any sep path ≡ false → after_the_last sep path ≡ path
  after_none [] none = refl
  after_none (b ∷ path) none = ap (λ (c : Bool). if c then after_the_last sep path else b ∷ path) none

  or_true : (b c : Bool) → c ≡ true → (b || c) ≡ true
  or_true true c e = refl
  or_true false c e = e

  or_left : (b c : Bool) → b ≡ true → (b || c) ≡ true
  or_left b c e = ap (λ (x : Bool). x || c) e

  or_false : (b c : Bool) → b ≡ false → c ≡ false → (b || c) ≡ false
  or_false b c e e' = ap (λ (x : Bool). x || c) e ∙ e'

  any_at : (path : List ℕ) (i d : ℕ) → i < length path → sep (get_or path i d) ≡ true → list_any sep path ≡ true
  any_at [] i d lt is = absurd (omega arith)
  any_at (b ∷ path) zero d lt is = or_left (sep b) (list_any sep path) is
  any_at (b ∷ path) (suc i) d lt is = or_true (sep b) (list_any sep path) (any_at path i d (omega arith) is)

  -- a separator, and none after it
  pub after_at : (path : List ℕ) (i d : ℕ) → i < length path → sep (get_or path i d) ≡ true
      → list_any sep (drop (suc i) path) ≡ false → after_the_last sep path ≡ drop (suc i) path
  after_at [] i d lt is none = absurd (omega arith)
  after_at (b ∷ path) zero d lt is none =
      ap (λ (c : Bool). if c then after_the_last sep path else b ∷ path) (or_left (sep b) (list_any sep path) is)
      ∙ after_none path none
  after_at (b ∷ path) (suc i) d lt is none =
      ap (λ (c : Bool). if c then after_the_last sep path
      else b ∷ path) (or_true (sep b) (list_any sep path) (any_at path i d (omega arith) is))
      ∙ after_at path i d (omega arith) is none
