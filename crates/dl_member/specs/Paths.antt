-- Paths of members. 40 and 41 are parentheses, 47 is a slash.
use Rattle.std.specs.Prelude.{◌≢◌, ◌≡◌, ◌<◌, ◌-◌, ◌==◌, ℕ, not, nat_lt, if◌then◌else◌, List, [], ◌∷◌, ◌++◌, length, take, map, slice_index}
use Rattle.std.specs.List.{suffix_len}
use Rattle.std.specs.Str.{is_utf8}

-- that of an archive, with a name in parentheses behind it
abbrev pub member_path : (archive name : List ℕ) → List ℕ
member_path archive name = archive ++ 40 ∷ (name ++ 41 ∷ [])

-- a path is both, and neither is empty; no parenthesis opens in the name
pub record IsMemberPath (path archive name : List ℕ) : Type 0 where
  pub whole : path ≡ member_path archive name
  pub has_archive : 0 < length archive
  pub has_name : 0 < length name
  pub opens_before : (i : ℕ) → i < length name → slice_index name i ≢ 40

-- a byte that is no ASCII as a question mark
abbrev pub readable_byte : ℕ → ℕ
readable_byte b = if nat_lt b 0x80 then b else 0x3f

-- a name as text, which it may not be: it is where it is UTF-8
abbrev pub readable : (name : List ℕ) → List ℕ
readable name = if is_utf8 name then name else map readable_byte name

-- the front of a path up to its last slash; empty where it has none
abbrev pub folder : (path : List ℕ) → List ℕ
folder path = take (length path - suffix_len (λ c. not (c == 47)) path) path

-- the path of the file of a member, of a thin archive: its name, beside the archive unless it begins with a slash
abbrev pub beside_path : (archive name : List ℕ) → List ℕ
beside_path archive name = if slice_index name 0 == 47 then name else folder archive ++ name
