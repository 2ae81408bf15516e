-- What was written so far, and how a failed write tells it. A count is 2^64 - 1 where it is more.
use Rattle.std.specs.Prelude.{◌≡◌, ℕ, ◌-◌, ◌^◌, ◌<◌, List, ◌++◌, length, take, min, Option, Result, MatchResult}
use Rattle.std.specs.Io.KnownBytes.{Appends}
use Rattle.dl_table.specs.declared.counted.HeadWrite.{HeadWrite}
use Rattle.dl_table.specs.declared.counted.HeadWrite.TheVariants.{TooLong, Write}

-- all of the text is out, on top of what the writer held at the start
pub record IsOut (start now : Option (List ℕ)) (text : List ℕ) (count : ℕ) : Type 0 where
  pub written : Appends start now text
  pub counted : count ≡ min (length text) (2 ^ 64 - 1)

-- not all of the text is out, but its first `out` bytes
pub record IsPartOut (start now : Option (List ℕ)) (text : List ℕ) (count out : ℕ) : Type 0 where
  pub within : out < length text
  pub written : Appends start now (take out text)
  pub counted : count ≡ min out (2 ^ 64 - 1)

abbrev pub TellsOut : (start now : Option (List ℕ)) (text : List ℕ) → HeadWrite → Type 0
TellsOut start now text (Write count) = (out : ℕ) × IsPartOut start now text count out
TellsOut start now text TooLong = ⊥

-- after whatever text was written before, `more` is
abbrev pub WroteMore : (old new : Option (List ℕ)) (before after : ℕ) (more : List ℕ) → Type 0
WroteMore old new before after more =
    (start : Option (List ℕ)) (text : List ℕ) → IsOut start old text before → IsOut start new (text ++ more) after

-- the same, or a write failed
abbrev pub Writes : (old new : Option (List ℕ)) (before : ℕ) (more : List ℕ) → Result ℕ HeadWrite → Type 0
Writes old new before more result = (start : Option (List ℕ)) (text : List ℕ) → IsOut start old text before
    → MatchResult result (λ n. IsOut start new (text ++ more) n) (λ f. TellsOut start new (text ++ more) f)
