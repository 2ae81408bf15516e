-- The candidates that are left.
use Rattle.std.specs.Prelude.{ℕ, Bool, true, false, List, drop, [], ◌∷◌, ◌++◌, map, option_map}
use Rattle.std.specs.Option.{option_map_or}
use Rattle.dl_elf.specs.Notes.{build_id_bytes}
use Rattle.dl_link.specs.DebugLink.{LinkData}
use Rattle.dl_link.specs.Told.{link_seen}
use Rattle.dl_follow.specs.Candidates.{below_if, by_build, candidates_of_cache, in_folder, in_hidden}
use Rattle.dl_follow.specs.Candidates as of
use Rattle.dl_follow.specs.Fits.{fit_seen}
use Rattle.dl_follow.specs.Places.{folder_of, place_path}
use Rattle.dl_follow.specs.declared.candidates.Candidate.{Candidate}
use Rattle.dl_follow.specs.declared.candidates.Candidates.{Candidates}
use Rattle.dl_follow.specs.declared.candidates.Link.{Link}
use Rattle.dl_follow.specs.declared.candidates.Link.TheVariants.{Beside, Below, Hidden}

abbrev pub candidate_seen : Candidate → of.Candidate
candidate_seen c = record { path = place_path c.place; fit = fit_seen c.fit }

-- by the build ID, below folders for debug information
abbrev pub builds_left : Candidates → List of.Candidate
builds_left c = option_map_or (λ id. by_build (map (λ dir. dir.now) (drop c.builds c.folders.dirs.now)) (build_id_bytes id.now)) c.sought.id []

abbrev pub linked_from : Link → LinkData → (folder : List ℕ) → (below : List of.Candidate) → List of.Candidate
linked_from Beside link folder below = in_folder link folder ∷ in_hidden link folder ∷ below
linked_from Hidden link folder below = in_hidden link folder ∷ below
linked_from Below link folder below = below

-- by the debug link
abbrev pub linked_left : Candidates → List of.Candidate
linked_left c = option_map_or (λ link. linked_from c.linked (link_seen link.now) (folder_of c.sought.path.now)
    (below_if (link_seen link.now) (map (λ dir. dir.now) (drop c.below c.folders.dirs.now)) (option_map (λ bytes. bytes.now) c.folders.absolute)))
    c.sought.link []

-- in a cache of debuginfod, where that wasn't looked into
abbrev pub cached_if : (has_cache : Bool) → List of.Candidate → List of.Candidate
cached_if true cs = cs
cached_if false cs = []

abbrev pub cached_left : Candidates → List of.Candidate
cached_left c = cached_if c.has_cache (candidates_of_cache (option_map (λ text. text.now) c.folders.cache)
    (option_map (λ id. build_id_bytes id.now) c.sought.id))

abbrev pub left : Candidates → List of.Candidate
left c = builds_left c ++ (linked_left c ++ cached_left c)
