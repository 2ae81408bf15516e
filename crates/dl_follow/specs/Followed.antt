-- Which file's line table is read for the file of a path. held: what the file at a path holds, where that is known; fails: the
-- errors that opening it or reading it may give. path: that of the first file; f: its bytes.
use Rattle.std.specs.Prelude.{⊤, ◌≡◌, ◌⊎◌, ℕ, List, Option, Some, None, Err}
use Rattle.std.specs.declared.io.Error.{Error}
use Rattle.dl_elf.specs.Sections.{opened}
use Rattle.dl_elf.specs.declared.fault.ElfFault.{ElfFault}
use Rattle.dl_follow.specs.Candidates.{FoldersData, IsFirst, candidates}
use Rattle.dl_follow.specs.Clues.{CluesData, GivesClues, HasLines, clues_seen, sought_by}
use Rattle.dl_follow.specs.Seen.{IsOpen, path_taken}
use Rattle.dl_follow.specs.declared.followed.Followed.{Followed}
use Rattle.dl_follow.specs.declared.followed.Followed.TheVariants.{Lost, Other, Own}

-- the file itself, or the one at another path, or none
pub data FollowedData : Type 0 where
  own : FollowedData
  other : (path : List ℕ) → CluesData → FollowedData
  lost : CluesData → FollowedData

abbrev pub followed_seen : {T : Type 0} → Followed T → FollowedData
followed_seen Own = own
followed_seen (Other taken clues) = other (path_taken taken) (clues_seen clues)
followed_seen (Lost clues) = lost (clues_seen clues)

-- by what the first file says another one is read, or there is none
abbrev pub FollowsClues : (held : List ℕ → Option (List ℕ)) (fails : List ℕ → Error → Type 0) (path : List ℕ) → FoldersData
    → CluesData → FollowedData → Type 0
FollowsClues held fails path d c own = ⊥
FollowsClues held fails path d c (other taken told) = (told ≡ c) × IsFirst held fails path (candidates d (sought_by path c)) (Some taken)
FollowsClues held fails path d c (lost told) = (told ≡ c) × IsFirst held fails path (candidates d (sought_by path c)) None

-- the first file itself is read: it has a line section, its headers can't be read, or it can't be opened or a read failed
abbrev pub IsOwn : (fails : Error → Type 0) (f : List ℕ) → Type 0
IsOwn fails f = HasLines f ⊎ (((fault : ElfFault) × (opened f ≡ Err fault)) ⊎ ((error : Error) × fails error))

abbrev pub IsFollowed : (held : List ℕ → Option (List ℕ)) (fails : List ℕ → Error → Type 0) (path : List ℕ) → FoldersData
    → (f : List ℕ) → FollowedData → Type 0
IsFollowed held fails path d f own = IsOwn (fails path) f
IsFollowed held fails path d f file = (c : CluesData) × GivesClues f c × FollowsClues held fails path d c file

-- another file is that of its path
abbrev pub FollowedOpen : {T : Type 0} → (all_bytes : T → Option (List ℕ)) (fails_with : T → Error → Type 0)
    (held : List ℕ → Option (List ℕ)) (fails : List ℕ → Error → Type 0) → Followed T → Type 0
FollowedOpen all_bytes fails_with held fails (Other taken clues) = IsOpen all_bytes fails_with held fails taken
FollowedOpen all_bytes fails_with held fails followed = ⊤
