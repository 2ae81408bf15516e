-- What is kept of the rows of a sequence. No promise rests on how this is said.
use Rattle.std.specs.Prelude.{◌≡◌, ℕ, ◌<◌, ◌^◌, ◌&&◌, true, false, List, [], ◌∷◌, ◌++◌, length, Option, Some, None, is_none}
use Rattle.dl_rows.specs.declared.row.Row.{Row}
use Rattle.dl_look.specs.declared.place.Place.{Place}
use Rattle.dl_look.specs.Answer.{is_at_most, is_rising, first_place, last_place, covers}
use Rattle.dl_stretch.specs.declared.run.Run.{Run}
use Rattle.dl_stretch.specs.declared.sequence.RowStage.{RowStage}
use Rattle.dl_stretch.specs.declared.sequence.RowStage.TheVariants.{Between, Passed, Rising}
use Rattle.dl_stretch.specs.Runs.{place_at, run_told_at}
use Rattle.dl_stretch.specs.RowRuns.{StartsRise, AreRunsOf}

-- the rows since the last end row
abbrev pub Keeps : RowStage → List Run → List Row → Type 0
Keeps Between runs rows = (rows ≡ []) × (runs ≡ [])
Keeps Passed runs rows = is_rising rows ≡ false
Keeps (Rising first last) runs rows =
    (is_rising rows ≡ true) × (0 < length rows) × (first ≡ first_place rows) × (last ≡ last_place rows)
    × AreRunsOf rows runs

abbrev pub AreKept : RowStage → List Run → Type 0
AreKept state runs = (rows : List Row) × Keeps state runs rows

-- from the first place on something is told
pub record TellFrom (first : Place) (runs : List Run) : Type 0 where
  pub rise : StartsRise runs
  pub full : (a : ℕ) → a < 2 ^ 64 → is_at_most first (place_at a) ≡ true → is_none (run_told_at runs a) ≡ false

-- where the end row r comes after the rows: the place from which on they tell, or none where they answer nothing
abbrev pub TellsFirst : Option Place → List Run → List Row → Row → Type 0
TellsFirst None runs rows r = (x : Place) → (is_rising (rows ++ r ∷ []) && covers x (rows ++ r ∷ [])) ≡ false
TellsFirst (Some first) runs rows r =
    (is_rising (rows ++ r ∷ []) ≡ true) × (0 < length rows) × (first ≡ first_place rows) × AreRunsOf rows runs
