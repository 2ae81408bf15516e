-- Files, of which the one at a path is another. held: what the file of a path holds, where that is known; fails: the errors that
-- opening and reading it may give.
use Rattle.std.specs.Prelude.{ℕ, List, Option, bytes_eq, if◌then◌else◌, MatchBool}
use Rattle.std.specs.declared.io.Error.{Error}
use Rattle.dl_member.specs.declared.source.WithMember.{WithMember}
use Rattle.dl_member.specs.declared.source.MemberOrFile.{MemberOrFile}
use Rattle.dl_member.specs.declared.source.MemberOrFile.TheVariants.{File, Member}

-- under the path `own` these bytes, and under all others what they hold
abbrev pub held_with : (own : List ℕ) → Option (List ℕ) → (held : List ℕ → Option (List ℕ)) → List ℕ → Option (List ℕ)
held_with own known held path = if bytes_eq path own then known else held path

-- under the path `own` these errors, and under all others theirs
abbrev pub fails_with : (own : List ℕ) → (fails_own : Error → Type 0) → (fails : List ℕ → Error → Type 0) → List ℕ → Error → Type 0
fails_with own fails_own fails path error = MatchBool (bytes_eq path own) (fails_own error) (fails path error)

abbrev pub held_by : {T F : Type 0} → (T → Option (List ℕ)) → (F → List ℕ → Option (List ℕ)) → WithMember T F → List ℕ
    → Option (List ℕ)
held_by all held files = held_with files.path.now (all files.file.now) (held files.files.now)

abbrev pub fails_by : {T F : Type 0} → (T → Error → Type 0) → (F → List ℕ → Error → Type 0) → WithMember T F → List ℕ → Error
    → Type 0
fails_by fails_own fails files = fails_with files.path.now (fails_own files.file.now) (fails files.files.now)

-- ---- an open file

abbrev pub bytes_of_either : {T U : Type 0} → (T → Option (List ℕ)) → (U → Option (List ℕ)) → MemberOrFile T U → Option (List ℕ)
bytes_of_either member file (Member m) = member m.now
bytes_of_either member file (File other) = file other

abbrev pub fails_of_either : {T U : Type 0} → (T → Error → Type 0) → (U → Error → Type 0) → MemberOrFile T U → Error → Type 0
fails_of_either member file (Member m) = member m.now
fails_of_either member file (File other) = file other
