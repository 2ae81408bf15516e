-- What the rows of units tell, one unit after the other.
use Rattle.std.specs.Prelude.{◌≡◌, ℕ, ◌<◌, ◌^◌, Bool, List, [], ◌∷◌, map, Option, Some, None}
use Rattle.std.specs.List.{Contains}
use Rattle.std.specs.Option.{option_map, option_or}
use Rattle.dl_rows.specs.declared.row.Row.{Row}
use Rattle.dl_look.specs.LiveRows.{live_answer}
use Rattle.dl_stretch.specs.declared.told.Told.{Told}
use Rattle.dl_stretch.specs.declared.run.Run.{Run}
use Rattle.dl_stretch.specs.Held.{held, told_by}
use Rattle.dl_stretch.specs.Runs.{place_at, told_of}

-- the rows of a unit, and the number of each of its files
pub record UnitRows : Type 0 where
  pub number : ℕ → ℕ
  pub rows : List Row

-- of the first unit that has an answer for a: what the row tells that answers, of its first live rising sequence that
-- covers a; live says of the address of a sequence's first row whether the sequence is live
abbrev pub told_of_units : (live : ℕ → Bool) → List UnitRows → ℕ → Option Told
told_of_units live [] a = None
told_of_units live (u ∷ units) a =
    option_or (option_map (told_of u.number) (live_answer live u.rows (place_at a))) (told_of_units live units a)

-- the number of the file that a run tells
abbrev pub file_of : Run → ℕ
file_of x = (told_by x).file

-- the runs name the file of each row that answers for an address, by the number that the row gives, as it is held
abbrev pub NameFiles : (live : ℕ → Bool) → List Row → List Run → Type 0
NameFiles live rows runs =
    (a : ℕ) (r : Row) → a < 2 ^ 64 → live_answer live rows (place_at a) ≡ Some r
    → Contains (map file_of runs) (held r.file)
