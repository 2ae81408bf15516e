-- What is looked for where, and the file that is taken.
use Rattle.std.specs.Prelude.{◌≡◌, ℕ, List, Option, map, option_map}
use Rattle.std.specs.declared.io.Error.{Error}
use Rattle.dl_elf.specs.Notes.{build_id_bytes}
use Rattle.dl_link.specs.Told.{link_seen}
use Rattle.dl_follow.specs.Candidates.{FoldersData, SoughtData}
use Rattle.dl_follow.specs.Places.{folder_of}
use Rattle.dl_follow.specs.declared.candidates.Folders.{Folders}
use Rattle.dl_follow.specs.declared.candidates.Sought.{Sought}
use Rattle.dl_follow.specs.declared.search.Taken.{Taken}

abbrev pub folders_seen : Folders → FoldersData
folders_seen f = record {
  dirs = map (λ dir. dir.now) f.dirs.now;
  absolute = option_map (λ bytes. bytes.now) f.absolute;
  cache = option_map (λ text. text.now) f.cache;
}

abbrev pub sought_seen : Sought → SoughtData
sought_seen s = record {
  folder = folder_of s.path.now;
  id = option_map (λ id. build_id_bytes id.now) s.id;
  link = option_map (λ link. link_seen link.now) s.link;
}

abbrev pub path_taken : {T : Type 0} → Taken T → List ℕ
path_taken taken = taken.path.bytes

-- the file is that of its path. all_bytes, fails_with: what files hold, and the errors that reading them may give; held, fails:
-- the same by their paths
abbrev pub IsOpen : {T : Type 0} → (all_bytes : T → Option (List ℕ)) (fails_with : T → Error → Type 0)
    (held : List ℕ → Option (List ℕ)) (fails : List ℕ → Error → Type 0) → Taken T → Type 0
IsOpen all_bytes fails_with held fails taken =
    (all_bytes taken.file ≡ held taken.path.bytes) × ((e : Error) → fails_with taken.file e → fails taken.path.bytes e)
