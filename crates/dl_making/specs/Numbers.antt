-- The numbers of the files of a unit, while an index is made. No promise rests on this file.
-- They stand in a list by the numbers that its rows give them, of which the last one stands for all past it too.
use Rattle.std.specs.Prelude.{◌≡◌, ◌⊎◌, ℕ, ◌-◌, ◌<◌, min, List, length, get_or, slice_get, Some}
use Rattle.dl_pack.specs.Named.{Named}
use Rattle.dl_making.specs.declared.files.UnitFiles.{UnitFiles}
use Rattle.dl_making.specs.UnitFile.{file_in}

-- each number that was looked up is right
abbrev pub AreSeen : UnitFiles → (files : List Named) → (numbers : List ℕ) → Type 0
AreSeen u files numbers =
    (k : ℕ) → k < length numbers
    → (get_or numbers k 0 ≡ 0x7fffffffffffffff) ⊎ (slice_get files (get_or numbers k 0) ≡ Some (file_in u k))

-- the place at which the number of a file stands
abbrev pub place_of : (numbers : List ℕ) → (file : ℕ) → ℕ
place_of numbers file = min file (length numbers - 1)

-- the number of the file was looked up
pub record IsNumbered (u : UnitFiles) (files : List Named) (numbers : List ℕ) (file : ℕ) : Type 0 where
  pub right : slice_get files (get_or numbers (place_of numbers file) 0) ≡ Some (file_in u (place_of numbers file))
