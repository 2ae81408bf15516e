-- The paths under which the debug information of a file may stand: those of GDB's manual ("Debugging Information in Separate
-- Files"), and those of a cache of debuginfod (debuginfod-find(1), "FILES").
use Rattle.std.specs.Prelude.{ℕ, zero, suc, ◌==◌, if◌then◌else◌, List, [], ◌++◌, length, take, drop, codes, slice_index}
use Rattle.hex.specs.Hex.{encode_lower}
use Rattle.dl_follow.specs.declared.place.Place.{Place}
use Rattle.dl_follow.specs.declared.place.Place.TheVariants.{Below, Beside, Build, Cached, Hidden}

-- how many of the first n bytes of a path there are up to the last slash among them
abbrev pub upto_slash : ℕ → List ℕ → ℕ
upto_slash zero path = 0
upto_slash (suc n) path = if slice_index path n == 47 then suc n else upto_slash n path

-- the folder that a path names: it up to the last slash
abbrev pub folder_of : (path : List ℕ) → List ℕ
folder_of path = take (upto_slash (length path) path) path

-- two digits of each byte, in lower case, between two texts
abbrev pub digits_between : (before bytes behind : List ℕ) → List ℕ
digits_between before bytes behind = before ++ (encode_lower bytes ++ behind)

abbrev pub parts_path : (dir first others : List ℕ) → List ℕ
parts_path dir first others =
    dir ++ (digits_between (codes "/.build-id/") first (codes "/") ++ digits_between [] others (codes ".debug"))

-- two digits of the first byte of the build ID, a slash, and the digits of the others
abbrev pub build_path : (dir id : List ℕ) → List ℕ
build_path dir id = parts_path dir (take 1 id) (drop 1 id)

abbrev pub cached_path : (cache id : List ℕ) → List ℕ
cached_path cache id = cache ++ digits_between (codes "/") id (codes "/debuginfo")

abbrev pub place_path : Place → List ℕ
place_path (Build dir id) = build_path dir.now id.now
place_path (Cached cache id) = cached_path cache.now id.now
place_path (Beside folder name) = folder.now ++ name.now
place_path (Hidden folder name) = folder.now ++ (codes ".debug/" ++ name.now)
place_path (Below dir folder name) = dir.now ++ (folder.now ++ name.now)
