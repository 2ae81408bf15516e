-- What an answer is of the bytes of an index.
use Rattle.std.specs.Prelude.{◌≡◌, ℕ, ◌-◌, ◌<◌, List, Option, Some, IfSome}
use Rattle.std.specs.Option.{option_map}
use Rattle.dl_index.specs.FindFour.{FindFour}
use Rattle.dl_index.specs.Layout.{base_in, count_in, start_in}
use Rattle.dl_index.specs.Telling.{told_in, find_in}
use Rattle.dl_index.specs.Shown.{told}
use Rattle.dl_index.specs.TextPlaces.{AreAt}
use Rattle.dl_index.specs.IsIndex.{IsIndex}
use Rattle.dl_index.specs.declared.four.Four.{Four}
use Rattle.dl_index.specs.declared.index.FoundLine.{FoundLine}

-- of well-formed bytes, what they tell of the address; of others, what some stretch of them tells, or nothing
pub record Finds (b : List ℕ) (a : ℕ) (found : Option FoundLine) : Type 0 where
  pub exact : IsIndex b → option_map told found ≡ find_in b a
  pub stands : IfSome found (λ f. (k : ℕ) × (k < count_in b) × (told_in b k ≡ Some (told f)))
  pub places : IfSome found (AreAt b)

-- of four addresses, the last stretches that don't begin above them, where starts rise
abbrev pub FindStretches : List ℕ → (a k : Four ℕ) → Type 0
FindStretches b a k =
    FindFour (start_in b) (count_in b) (record {
      first = a.first - base_in b;
      second = a.second - base_in b;
      third = a.third - base_in b;
      fourth = a.fourth - base_in b;
    }) k
