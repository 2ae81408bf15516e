-- All files that are checked. checks, refuses, reads, misses: what is said of a file, of a path that isn't UTF-8, of a
-- list that is read, and of one that can't be.
use Rattle.std.specs.Prelude.{◌≡◌, ℕ, List, [], ◌∷◌, ◌++◌, map, max, Option, Some, None}
use Rattle.std.specs.Option.{option_map_or}
use Rattle.dl_several.specs.Checks.{IsWorst}
use Rattle.dl_several.specs.Lists.{ListChecked}
use Rattle.dl_several.specs.declared.files.PathList.{PathList}
use Rattle.dl_several.specs.declared.files.Several.{Several}

-- the paths that stand in no list, in their order
abbrev pub named : Several → List (List ℕ)
named files = option_map_or (λ path. path.now ∷ []) files.first [] ++ map (λ path. path.now) files.others.now

module _ {T : Type 0} (checks refuses : T → List ℕ → ℕ → T → Type 0) (reads : T → List ℕ → List ℕ → T → Type 0)
    (misses : T → List ℕ → ℕ → T → Type 0) where
  -- the files of a list are checked, where there is one
  abbrev pub AnyListChecked : Option PathList → (status : ℕ) (old new : T) → Type 0
  AnyListChecked None status old new = (status ≡ 0) × (new ≡ old)
  AnyListChecked (Some list) status old new = ListChecked checks refuses reads misses list status old new

  -- the files at these paths are checked, and then those of the list; the status is the worst of all
  abbrev pub AreChecked : Several → (status : ℕ) (old new : T) → Type 0
  AreChecked files status old new =
      (first : ℕ) × (between : T) × (listed : ℕ) × IsWorst checks (named files) first old between
      × AnyListChecked files.list listed between new × (status ≡ max first listed)
