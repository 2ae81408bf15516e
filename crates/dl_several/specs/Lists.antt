-- The files of a list of paths. checks, refuses, reads, misses: what is said of a file, of a path that isn't UTF-8, of
-- a list that is read, and of one that can't be.
use Rattle.std.specs.Prelude.{◌==◌, ◌⊎◌, ℕ, not, List, filter, length}
use Rattle.std.specs.List.{slice_split}
use Rattle.std.specs.Str.{IsUtf8}
use Rattle.dl_several.specs.Checks.{IsWorst}
use Rattle.dl_several.specs.declared.files.PathList.{PathList}

-- the paths in these bytes: the pieces before, between and behind the bytes `end`, but for the empty ones
abbrev pub paths_in : (end : ℕ) (bytes : List ℕ) → List (List ℕ)
paths_in end bytes = filter (λ path. not (length path == 0)) (slice_split (λ byte. byte == end) bytes)

module _ {T : Type 0} (checks refuses : T → List ℕ → ℕ → T → Type 0) where
  -- the file at a path is checked; of a path that isn't UTF-8 that is told
  abbrev pub AtPath : (old : T) (path : List ℕ) (status : ℕ) (new : T) → Type 0
  AtPath old path status new =
      (IsUtf8 path × checks old path status new) ⊎ ((IsUtf8 path → ⊥) × refuses old path status new)

  -- a list is read, and the file at each of its paths is checked; or the list can't be read
  abbrev pub ListChecked : (reads : T → List ℕ → List ℕ → T → Type 0) (misses : T → List ℕ → ℕ → T → Type 0)
      → PathList → (status : ℕ) (old new : T) → Type 0
  ListChecked reads misses list status old new =
      ((bytes : List ℕ) × (between : T) × reads old list.path.now bytes between
      × IsWorst AtPath (paths_in list.end bytes) status between new)
      ⊎ misses old list.path.now status new
