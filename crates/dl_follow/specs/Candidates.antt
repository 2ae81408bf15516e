-- The files in which debug information is looked for, in order, and which of them is taken. held: what the file at a path
-- holds, where that is known; fails: the errors that opening it or reading it may give. own: the path of the file whose
-- debug information it is.
use Rattle.std.specs.Prelude.{◌≡◌, ◌≢◌, ◌⊎◌, ◌<◌, ℕ, List, [], ◌∷◌, ◌++◌, length, map, codes, Option, Some, None}
use Rattle.std.specs.List.{All}
use Rattle.std.specs.Str.{IsUtf8}
use Rattle.std.specs.declared.io.Error.{Error}
use Rattle.dl_elf.specs.Source.{ForBytes}
use Rattle.dl_link.specs.DebugLink.{LinkData}
use Rattle.dl_follow.specs.Fits.{build, checked, FitData, Fits, Misses}
use Rattle.dl_follow.specs.Places.{build_path, cached_path}

-- a path, and by what the file there is known
pub record Candidate : Type 0 where
  pub path : List ℕ
  pub fit : FitData

-- by the build ID, below each folder for debug information
abbrev pub by_build : (dirs : List (List ℕ)) (id : List ℕ) → List Candidate
by_build dirs id = map (λ dir. record { path = build_path dir id; fit = build id }) dirs

-- a file of this name and check value in a folder
abbrev pub in_folder : LinkData → (folder : List ℕ) → Candidate
in_folder link folder = record { path = folder ++ link.name; fit = checked link.crc }

-- and in `.debug` of it
abbrev pub in_hidden : LinkData → (folder : List ℕ) → Candidate
in_hidden link folder = record { path = folder ++ (codes ".debug/" ++ link.name); fit = checked link.crc }

-- by the debug link, in the folder of the file
abbrev pub beside : LinkData → (folder : List ℕ) → List Candidate
beside link folder = in_folder link folder ∷ in_hidden link folder ∷ []

-- and below each folder for debug information, in that of the file as an absolute path
abbrev pub below : LinkData → (dirs : List (List ℕ)) (absolute : List ℕ) → List Candidate
below link dirs absolute = map (λ dir. record { path = dir ++ (absolute ++ link.name); fit = checked link.crc }) dirs

-- by the build ID, in a cache of debuginfod
abbrev pub in_cache : (cache id : List ℕ) → Candidate
in_cache cache id = record { path = cached_path cache id; fit = build id }

-- ---- all of them

-- what is known of the file: the folder that it is in, which is empty or ends with a slash, its build ID, and its debug link
pub record SoughtData : Type 0 where
  pub folder : List ℕ
  pub id : Option (List ℕ)
  pub link : Option LinkData

-- where files are looked for: folders for debug information, the folder of the file as an absolute path, and a cache of debuginfod
pub record FoldersData : Type 0 where
  pub dirs : List (List ℕ)
  pub absolute : Option (List ℕ)
  pub cache : Option (List ℕ)

abbrev pub candidates_of_id : FoldersData → Option (List ℕ) → List Candidate
candidates_of_id d None = []
candidates_of_id d (Some id) = by_build d.dirs id

abbrev pub below_if : LinkData → (dirs : List (List ℕ)) → Option (List ℕ) → List Candidate
below_if link dirs None = []
below_if link dirs (Some absolute) = below link dirs absolute

abbrev pub candidates_of_link : FoldersData → (folder : List ℕ) → Option LinkData → List Candidate
candidates_of_link d folder None = []
candidates_of_link d folder (Some link) = beside link folder ++ below_if link d.dirs d.absolute

abbrev pub candidates_of_cache : Option (List ℕ) → Option (List ℕ) → List Candidate
candidates_of_cache (Some cache) (Some id) = in_cache cache id ∷ []
candidates_of_cache cache id = []

-- by the build ID, then by the debug link, then in the cache
abbrev pub candidates : FoldersData → SoughtData → List Candidate
candidates d sought =
    candidates_of_id d sought.id ++ (candidates_of_link d sought.folder sought.link ++ candidates_of_cache d.cache sought.id)

-- ---- which is taken

-- a file isn't taken: its path is too long, or no text, or that of the file itself; or opening it failed, or it isn't the one
abbrev pub PassedOver : (held : List ℕ → Option (List ℕ)) (fails : List ℕ → Error → Type 0) (own : List ℕ) → Candidate → Type 0
PassedOver held fails own c =
    (4096 < length c.path) ⊎ ((IsUtf8 c.path → ⊥) ⊎ ((c.path ≡ own) ⊎ (((error : Error) × fails c.path error)
    ⊎ ForBytes (held c.path) (Misses (fails c.path) c.fit))))

-- the file at this path is taken, by a candidate: it fits, and isn't the file itself
abbrev pub IsTaken : (held : List ℕ → Option (List ℕ)) (own : List ℕ) → Candidate → (path : List ℕ) → Type 0
IsTaken held own c path = (path ≡ c.path) × (path ≢ own) × ForBytes (held path) (Fits c.fit)

-- one is the first that is taken; or none is
abbrev pub IsFirst : (held : List ℕ → Option (List ℕ)) (fails : List ℕ → Error → Type 0) (own : List ℕ) → List Candidate
    → (taken : Option (List ℕ)) → Type 0
IsFirst held fails own cs None = All (PassedOver held fails own) cs
IsFirst held fails own cs (Some path) =
    (before : List Candidate) × (c : Candidate) × (behind : List Candidate) × (cs ≡ before ++ c ∷ behind)
    × All (PassedOver held fails own) before × IsTaken held own c path
