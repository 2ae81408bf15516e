-- What a search for the places of a line keeps. No promise rests on this file.
use Rattle.std.specs.Prelude.{◌≡◌, ◌⊎◌, ℕ, ◌+◌, ◌≤◌, ◌<◌, Bool, true, false, nat_lt, if◌then◌else◌, List, [], ◌∷◌, ◌++◌, length, take}
use Rattle.std.specs.Prelude.{map, slice_get, slice_index_or, option_to_list, Option, Some, None}
use Rattle.std.specs.Option.{option_map_or}
use Rattle.std.specs.Global.{Vec}
use Rattle.dl_rows.specs.declared.row.Row.{Row}
use Rattle.dl_lines.specs.declared.best.KeptPlace.{KeptPlace}
use Rattle.dl_lines.specs.declared.question.Wanted.{Wanted}
use Rattle.dl_lines.specs.declared.search.FileMatch.{FileMatch}
use Rattle.dl_lines.specs.declared.search.FileMatch.TheVariants.{Other, Path}
use Rattle.dl_lines.specs.declared.search.Search.{Search}
use Rattle.dl_lines.specs.Places.{CodePlace}
use Rattle.dl_lines.specs.Answers.{answering, by_address, is_line, matches}
use Rattle.dl_lines.specs.Kept.{AreWithin, Rises, both, is_exact, place_kept, places_kept}

abbrev pub texts_of : Vec (Vec ℕ) → List (List ℕ)
texts_of paths = map (λ (v : Vec ℕ). v.items) paths.items

abbrev pub path_found : Vec ℕ → List ℕ
path_found v = v.items

abbrev pub file_or_other : Option FileMatch → FileMatch
file_or_other None = Other
file_or_other (Some file) = file

abbrev pub file_at : List FileMatch → (number : ℕ) → FileMatch
file_at files number = file_or_other (slice_get files number)

abbrev pub option_len : Option (List ℕ) → ℕ
option_len path = option_map_or length path 0

-- the path is one that the search wants
abbrev pub is_wanted : Wanted → Option (List ℕ) → Bool
is_wanted w path = option_map_or (matches w.path.now) path false

-- ---- one call

pub record IsNew (s : Search) (w : Wanted) (exact : Bool) : Type 0 where
  pub wanted : s.wanted ≡ w
  pub lines : is_exact s.lines ≡ exact
  pub files : s.files.items ≡ []
  pub paths : s.paths.items ≡ []
  pub paths_kept : s.paths_kept ≡ 0
  pub kept : s.kept.places.items ≡ []
  pub unit : s.unit.places.items ≡ []

pub record IsBegun (old new : Search) : Type 0 where
  pub wanted : new.wanted ≡ old.wanted
  pub lines : new.lines ≡ old.lines
  pub files : new.files.items ≡ []
  pub paths : new.paths.items ≡ take old.paths_kept old.paths.items
  pub paths_kept : new.paths_kept ≡ old.paths_kept
  pub kept : new.kept ≡ old.kept
  pub unit : new.unit.places.items ≡ []

-- the next file of the table has this path
pub record IsJudged (old new : Search) (path : Option (List ℕ)) : Type 0 where
  pub wanted : new.wanted ≡ old.wanted
  pub lines : new.lines ≡ old.lines
  pub files : new.files.items
      ≡ old.files.items ++ (if is_wanted old.wanted path then Path (length old.paths.items) else Other) ∷ []
  pub paths : texts_of new.paths
      ≡ texts_of old.paths ++ (if is_wanted old.wanted path then option_to_list path else [])
  pub paths_kept : new.paths_kept ≡ old.paths_kept
  pub kept : new.kept ≡ old.kept
  pub unit : new.unit ≡ old.unit

-- the place of a row of this file
abbrev pub place_of_file : Row → FileMatch → List KeptPlace
place_of_file r Other = []
place_of_file r (Path n) = record {
  address = r.address;
  column = r.column;
  prologue_end = r.prologue_end;
  path = n;
} ∷ []

abbrev pub place_added : Search → Row → List KeptPlace
place_added s r =
    if is_line (is_exact s.lines) s.wanted.line r.line then place_of_file r (file_at s.files.items r.file) else []

-- the current unit has a place at this row
pub record IsAdded (old new : Search) (r : Row) : Type 0 where
  pub wanted : new.wanted ≡ old.wanted
  pub lines : new.lines ≡ old.lines
  pub files : new.files ≡ old.files
  pub paths : new.paths ≡ old.paths
  pub paths_kept : new.paths_kept ≡ old.paths_kept
  pub kept : new.kept ≡ old.kept
  pub unit : (paths : List (List ℕ)) → places_kept paths new.unit
      ≡ both (places_kept paths old.unit) (map (place_kept paths r.line) (place_added old r))
  pub within : (count : ℕ) → AreWithin count old.unit.places.items → AreWithin count (place_added old r)
      → AreWithin count new.unit.places.items
  pub few : length new.unit.places.items ≤ length old.unit.places.items + 1

-- the current unit has ended
pub record IsEnded (old new : Search) : Type 0 where
  pub wanted : new.wanted ≡ old.wanted
  pub lines : new.lines ≡ old.lines
  pub files : new.files.items ≡ []
  pub paths : new.paths.items ≡ take new.paths_kept old.paths.items
  pub paths_kept : ((new.paths_kept ≡ old.paths_kept) × (old.unit.places.items ≡ []))
      ⊎ (new.paths_kept ≡ length old.paths.items)
  pub kept : (paths : List (List ℕ))
      → places_kept paths new.kept ≡ both (places_kept paths old.kept) (places_kept paths old.unit)
  pub within : (count : ℕ) → AreWithin count old.kept.places.items → AreWithin count old.unit.places.items
      → AreWithin count new.kept.places.items
  pub few : length new.kept.places.items ≤ length old.kept.places.items + length old.unit.places.items
  pub unit : new.unit.places.items ≡ []

-- its places are in order
pub record IsOrdered (old new : Search) : Type 0 where
  pub wanted : new.wanted ≡ old.wanted
  pub paths : new.paths ≡ old.paths
  pub kept : (paths : List (List ℕ)) → places_kept paths new.kept ≡ by_address (places_kept paths old.kept)
  pub rises : Rises new.kept.places.items

-- ---- one search after the other

-- each of them becomes another one
pub record AllBecome (P : Search → Search → Type 0) (old new : List Search) : Type 0 where
  pub count : length new ≡ length old
  pub each : (i : ℕ) (d : Search) → i < length old → P (slice_index_or old i d) (slice_index_or new i d)

-- the first so many of them
pub record FirstBecome (P : Search → Search → Type 0) (n : ℕ) (old new : List Search) : Type 0 where
  pub count : length new ≡ length old
  pub each : (i : ℕ) (d : Search) → i < length old → i < n → P (slice_index_or old i d) (slice_index_or new i d)
  pub others : (i : ℕ) (d : Search) → i < length old → n ≤ i → slice_index_or new i d ≡ slice_index_or old i d

-- ---- what it stands for

-- what is known of a file with this path
abbrev pub IsKnown : (paths : List (List ℕ)) → Wanted → FileMatch → (path : Option (List ℕ)) → Type 0
IsKnown paths w Other path = is_wanted w path ≡ false
IsKnown paths w (Path n) path =
    (n < length paths) × (slice_get paths n ≡ path) × (is_wanted w path ≡ true)

-- it was told the places of the units that have ended, and of the current one, whose files have these paths; of so many rows
-- and files
pub record Stands (s : Search) (w : Wanted) (exact : Bool) (ended current : List CodePlace) (path : ℕ → Option (List ℕ))
    (rows files : ℕ) : Type 0 where
  pub wanted : s.wanted ≡ w
  pub lines : is_exact s.lines ≡ exact
  pub kept : places_kept (texts_of s.paths) s.kept ≡ answering exact w ended
  pub unit : places_kept (texts_of s.paths) s.unit ≡ answering exact w current
  pub kept_within : AreWithin s.paths_kept s.kept.places.items
  pub unit_within : AreWithin (length s.paths.items) s.unit.places.items
  pub paths_within : s.paths_kept ≤ length s.paths.items
  pub known : (file : ℕ) → IsKnown (texts_of s.paths) w (file_at s.files.items file) (path file)
  pub few_places : length s.kept.places.items + length s.unit.places.items ≤ rows
  pub few_paths : length s.paths.items ≤ files

-- the paths of the first so many files
abbrev pub upto : (count : ℕ) → (path : ℕ → Option (List ℕ)) → ℕ → Option (List ℕ)
upto count path file = if nat_lt file count then path file else None

-- the searches were told the paths of so many files of the current unit, and no row of it
pub record Judging (searches : List Search) (wanted : List Wanted) (exact : Bool) (ended : List CodePlace)
    (path : ℕ → Option (List ℕ)) (rows files count : ℕ) : Type 0 where
  pub same : length searches ≡ length wanted
  pub stands : (i : ℕ) (d : Search) (w : Wanted) → i < length wanted
      → Stands (slice_index_or searches i d) (slice_index_or wanted i w) exact ended [] (upto count path) rows
      (files + count)
  pub told : (i : ℕ) (d : Search) → i < length searches → length (slice_index_or searches i d).files.items ≡ count
