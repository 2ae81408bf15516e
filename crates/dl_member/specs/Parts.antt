-- The parts of a text, for contracts. No promise rests on this file.
use Rattle.std.specs.Prelude.{◌≢◌, ◌≡◌, ◌<◌, ℕ, List, ◌∷◌, ◌++◌, length, slice_index}

-- what stands before the last parenthesis that opens in a text, and behind that
pub record IsAroundLast (text front back : List ℕ) : Type 0 where
  pub whole : text ≡ front ++ 40 ∷ back
  pub last : (i : ℕ) → i < length back → slice_index back i ≢ 40
