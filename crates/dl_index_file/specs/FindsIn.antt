-- What an answer is of a file with the bytes of an index.
use Rattle.std.specs.Prelude.{◌≡◌, ℕ, ◌<◌, List, Option, Some, IfSome}
use Rattle.std.specs.Option.{option_map}
use Rattle.dl_index.specs.Layout.{count_in}
use Rattle.dl_index.specs.Telling.{told_in, find_in}
use Rattle.dl_index.specs.IsIndex.{IsIndex}
use Rattle.dl_index_file.specs.Shown.{shown, TextsLie}
use Rattle.dl_index_file.specs.declared.index.FileFound.{FileFound}

-- of well-formed bytes, what they tell of the address; of others, what some stretch of them tells, or nothing
pub record FindsIn (b : List ℕ) (a : ℕ) (found : Option FileFound) : Type 0 where
  pub exact : IsIndex b → option_map (shown b) found ≡ find_in b a
  pub stands : IfSome found (λ f. (k : ℕ) × (k < count_in b) × (told_in b k ≡ Some (shown b f)))
  pub lie : IfSome found (λ f. TextsLie b f.texts)
