-- Bytes that are gathered before they are written. No promise rests on this file.
use Rattle.std.specs.Prelude.{◌≡◌, ℕ, List, ◌++◌, Option, Result, MatchResult}
use Rattle.dl_table.specs.declared.counted.HeadWrite.{HeadWrite}
use Rattle.dl_table.specs.Writing.{IsOut, TellsOut}

-- of the text a front is out, on top of what the writer held at the start, and the rest is held
pub record IsGathered (start now : Option (List ℕ)) (text held : List ℕ) (count : ℕ) : Type 0 where
  pub front : List ℕ
  pub whole : text ≡ front ++ held
  pub out : IsOut start now front count

-- the text stays, or a write of it failed
abbrev pub Gathers : (old new : Option (List ℕ)) (before : ℕ) (held after : List ℕ) → Result ℕ HeadWrite → Type 0
Gathers old new before held after result =
    (start : Option (List ℕ)) (text : List ℕ) → IsGathered start old text held before
    → MatchResult result (λ n. IsGathered start new text after n) (λ f. TellsOut start new text f)
