-- What is told of a file without a line section of which the debug information wasn't found.
use Rattle.std.specs.Prelude.{ℕ, Bool, true, false, nat_le, nat_lt, if◌then◌else◌, List, [], ◌∷◌, ◌++◌, length, map, take, codes, flat_map}
use Rattle.std.specs.Prelude.{Option, Some, None, is_some, option_map}
use Rattle.std.specs.List.{filter}
use Rattle.dl_elf.specs.FaultText.{build_id_text}
use Rattle.dl_elf.specs.declared.build_id.BuildId.{BuildId}
use Rattle.dl_follow.specs.Candidates.{Candidate, candidates}
use Rattle.dl_follow.specs.Seen.{folders_seen, sought_seen}
use Rattle.dl_follow.specs.declared.told.NotFound.{NotFound}
use Rattle.dl_open.specs.Shown.{shown_bytes, shown_word}

-- the paths of candidates, but for those that are too long to be tried
abbrev pub tried : List Candidate → List (List ℕ)
tried cs = filter (λ path. nat_le (length path) 4096) (map (λ c. c.path) cs)

-- paths with commas between them
abbrev pub listed : List (List ℕ) → List ℕ
listed [] = []
listed (path ∷ others) = shown_bytes path ++ flat_map (λ other. codes ", " ++ shown_bytes other) others

-- the first three, and whether there are more
abbrev pub listed_first : List (List ℕ) → List ℕ
listed_first [] = codes "none"
listed_first paths = listed (take 3 paths) ++ (if nat_lt 3 (length paths) then codes ", .." else [])

-- what was tried, with the name that the build ID makes, where the file has one; nothing where it has no debug link either
abbrev pub reason : Option BuildId → (has_link : Bool) → (tried : List ℕ) → List ℕ
reason (Some id) link tried =
    codes " (its debug information may be in " ++ (build_id_text id ++ (codes "; tried " ++ (tried ++ codes ")")))
reason None true tried = codes " (tried " ++ (tried ++ codes ")")
reason None false tried = []

-- all of it
abbrev pub not_found_text : NotFound → List ℕ
not_found_text lost =
    shown_word lost.sought.path.now ++ codes ": no section .debug_line"
    ++ reason (option_map (λ id. id.now) lost.sought.id) (is_some lost.sought.link)
    (listed_first (tried (candidates (folders_seen lost.folders) (sought_seen lost.sought))))
