-- Where the texts of a path stand in the bytes of an index.
use Rattle.std.specs.Prelude.{◌≡◌, ℕ, ◌+◌, ◌≤◌, List, length, take, drop, IfSome}
use Rattle.dl_index.specs.declared.index.FoundLine.{FoundLine}

-- a text is these bytes from a place on
pub record StandsAt (b : List ℕ) (place : ℕ) (text : List ℕ) : Type 0 where
  pub within : place + length text ≤ length b
  pub bytes : text ≡ take (length text) (drop place b)

-- of an answer: each text that there is
pub record AreAt (b : List ℕ) (found : FoundLine) : Type 0 where
  pub first : IfSome found.texts.first (λ t. StandsAt b found.places.first t.now)
  pub second : IfSome found.texts.second (λ t. StandsAt b found.places.second t.now)
  pub third : IfSome found.texts.third (λ t. StandsAt b found.places.third t.now)
