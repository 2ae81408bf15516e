-- What is cut off the front of a list of bytes, one spelling after another, as long as one stands there.
use Rattle.std.specs.Prelude.{◌≡◌, ℕ, List, [], ◌∷◌, ◌++◌, Option, Some, None}

-- nothing is spelled by w, nor by a front of it
abbrev pub SpellsNowhere : {A : Type 0} → (List ℕ → Option A) → List ℕ → Type 0
SpellsNowhere {A} spelt w = (front back : List ℕ) → w ≡ front ++ back → ◌≡◌ {A = Option A} (spelt front) None

-- w spells a, and no shorter front of it spells anything
pub record SpellsFirst {A : Type 0} (spelt : List ℕ → Option A) (w : List ℕ) (a : A) : Type 0 where
  pub spells : spelt w ≡ Some a
  pub shortest : (front : List ℕ) (x : ℕ) (back : List ℕ) → w ≡ front ++ x ∷ back → spelt front ≡ None

-- b is spellings of found, one after the other, and then rest, at whose front none stands
abbrev pub IsCut : {A : Type 0} → (List ℕ → Option A) → List ℕ → List A → List ℕ → Type 0
IsCut spelt b [] rest = (b ≡ rest) × SpellsNowhere spelt rest
IsCut spelt b (a ∷ found) rest =
    (w : List ℕ) × (v : List ℕ) × (b ≡ w ++ v) × SpellsFirst spelt w a × IsCut spelt v found rest

-- what stands at the front of some bytes, and the bytes after it, where nothing more stands
pub record Standing (A : Type 0) : Type 0 where
  pub found : List A
  pub rest : List ℕ

abbrev pub with_found : {A : Type 0} → A → Standing A → Standing A
with_found a s = record { found = a ∷ s.found; rest = s.rest }

-- begun: bytes before b that don't spell anything yet
abbrev pub standing_after : {A : Type 0} → (List ℕ → Option A) → List ℕ → List ℕ → Standing A
standing_after spelt begun [] = record { found = []; rest = begun }
standing_after spelt begun (x ∷ b) = elim (spelt (begun ++ x ∷ []))
    [ Some a ↦ with_found a (standing_after spelt [] b) | None ↦ standing_after spelt (begun ++ x ∷ []) b ]

-- the cut of b, computed
abbrev pub standing : {A : Type 0} → (List ℕ → Option A) → List ℕ → Standing A
standing spelt b = standing_after spelt [] b
