-- The file of a member. held: what the file of a path holds, where that is known; fails: the errors that opening and reading it
-- may give. f: the bytes of the archive.
use Rattle.std.specs.Prelude.{◌≡◌, ◌⊎◌, ◌<◌, ℕ, List, length, Option, Some, None, Result, Ok, Err}
use Rattle.std.specs.Str.{IsUtf8}
use Rattle.std.specs.declared.io.Error.{Error}
use Rattle.dl_archive.specs.Archive.{MemberData}
use Rattle.dl_archive.specs.Bytes.{bytes_in, bytes_of, source_of}
use Rattle.dl_elf.specs.declared.file.Range.{Range}
use Rattle.dl_archive.specs.declared.kind.Kind.{Kind}
use Rattle.dl_member.specs.Finding.{FailsAsRead, IsFirst, IsNotFound}
use Rattle.dl_member.specs.Paths.{beside_path}
use Rattle.dl_member.specs.declared.fault.MemberFault.{MemberFault}
use Rattle.dl_member.specs.declared.fault.MemberFault.TheVariants.{Open}
use Rattle.dl_member.specs.declared.file.MemberFile.{MemberFile}
use Rattle.dl_member.specs.declared.file.MemberFile.TheVariants.{Beside, Within}

-- its bytes, where they are known, by those of the archive and of a file beside it
abbrev pub bytes_of_file : {S F : Type 0} → (S → Option (List ℕ)) → (F → Option (List ℕ)) → MemberFile S F → Option (List ℕ)
bytes_of_file archive file (Within bytes) = bytes_of archive bytes
bytes_of_file archive file (Beside other) = file other

-- the errors that reading it may give
abbrev pub fails_of_file : {S F : Type 0} → (S → Error → Type 0) → (F → Error → Type 0) → MemberFile S F → Error → Type 0
fails_of_file archive file (Within bytes) = archive (source_of bytes)
fails_of_file archive file (Beside other) = file other

-- what the file of a member of this name holds, by where its bytes stand in the archive: in a thin one they are those of a file
-- beside it
abbrev pub member_bytes : (held : List ℕ → Option (List ℕ)) (f archive name : List ℕ) → Option Range → Option (List ℕ)
member_bytes held f archive name None = held (beside_path archive name)
member_bytes held f archive name (Some r) = Some (bytes_in r f)

-- the errors that opening and reading it may give
abbrev pub member_fails : (fails_archive : Error → Type 0) (fails : List ℕ → Error → Type 0) (archive name : List ℕ) → Option Range
    → Error → Type 0
member_fails fails_archive fails archive name None = fails (beside_path archive name)
member_fails fails_archive fails archive name (Some r) = fails_archive

-- it has these bytes
abbrev pub IsOpened : {S F : Type 0} → (S → Option (List ℕ)) → (F → Option (List ℕ)) → (held : List ℕ → Option (List ℕ))
    → (f archive name : List ℕ) → Option Range → MemberFile S F → Type 0
IsOpened all_archive all held f archive name place file = bytes_of_file all_archive all file ≡ member_bytes held f archive name place

-- the file beside a thin archive can't be opened: that fails, or its name isn't UTF-8, or its path is too long
abbrev pub CannotOpen : (fails : List ℕ → Error → Type 0) (archive name : List ℕ) → Error → Type 0
CannotOpen fails archive name error =
    fails (beside_path archive name) error ⊎ ((IsUtf8 name → ⊥) ⊎ (8194 < length (beside_path archive name)))

-- what open_member answers: the file of the first member of the name, with the bytes of that, whose reads fail as the others do; or
-- that there is none, or why it can't be opened. fails_archive: the errors that reading the archive may give
abbrev pub OpensMember : {S F : Type 0} → (S → Option (List ℕ)) → (S → Error → Type 0) → (F → Option (List ℕ)) → (F → Error → Type 0)
    → (fails_archive : Error → Type 0) (held : List ℕ → Option (List ℕ)) (fails : List ℕ → Error → Type 0) (f archive name : List ℕ)
    → Result (MemberFile S F) MemberFault → Type 0
OpensMember all_archive archive_fails all file_fails fails_archive held fails f archive name (Ok file) =
    (kind : Kind) × (m : MemberData) × IsFirst kind f name (Some m)
    × IsOpened all_archive all held f archive name m.place file
    × ((error : Error) → fails_of_file archive_fails file_fails file error → member_fails fails_archive fails archive name m.place error)
OpensMember all_archive archive_fails all file_fails fails_archive held fails f archive name (Err (Open error)) =
    (kind : Kind) × (m : MemberData) × IsFirst kind f name (Some m) × (m.place ≡ None) × CannotOpen fails archive name error
OpensMember all_archive archive_fails all file_fails fails_archive held fails f archive name (Err fault) =
    IsNotFound f name fault × FailsAsRead fails_archive fault
