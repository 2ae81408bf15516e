-- Stretches of a function from addresses to answers: runs of addresses with the same answer, as long as can be.
use Rattle.std.specs.Prelude.{◌≡◌, ◌≢◌, ℕ, ◌<◌, ◌^◌, Bool, false, nat_le, List, [], ◌∷◌, reverse, Option}
use Rattle.std.specs.Prelude.{is_none}
use Rattle.std.specs.List.{find}
use Rattle.std.specs.Option.{option_and_then}
use Rattle.dl_stretch.specs.declared.told.Told.{Told}
use Rattle.dl_stretch.specs.declared.stretch.Stretch.{Stretch}

-- the last item that begins at a or before it
abbrev pub last_begun : {A : Type 0} → (A → ℕ) → List A → ℕ → Option A
last_begun start items a = find (λ x. nat_le (start x) a) (reverse items)

-- each item and the next one
abbrev pub Neighbours : {A : Type 0} → (A → A → Type 0) → List A → Type 0
Neighbours P [] = Unit {0}
Neighbours P (x ∷ []) = Unit {0}
Neighbours P (x ∷ y ∷ items) = P x y × Neighbours P (y ∷ items)

-- what the last stretch tells that doesn't begin above a; before the first one there is nothing
abbrev pub told_at : List Stretch → ℕ → Option Told
told_at stretches a = option_and_then (λ (s : Stretch). s.told) (last_begun (λ (s : Stretch). s.start) stretches a)

-- the later one begins above the other, and they differ in what they tell
abbrev pub Apart : Stretch → Stretch → Type 0
Apart s t = (s.start < t.start) × (s.told ≢ t.told)

abbrev pub is_gap_first : List Stretch → Bool
is_gap_first [] = false
is_gap_first (s ∷ stretches) = is_none s.told

-- they tell what f answers for each address, and are as few as can be: neighbours are apart, and the first is no gap
pub record AreStretches (f : ℕ → Option Told) (stretches : List Stretch) : Type 0 where
  pub right : (a : ℕ) → a < 2 ^ 64 → told_at stretches a ≡ f a
  pub apart : Neighbours Apart stretches
  pub first : is_gap_first stretches ≡ false
