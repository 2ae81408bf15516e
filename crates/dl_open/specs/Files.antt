-- The string sections in the files of `--line-str` and `--str`. held: what the file of a path holds, where that is
-- known; fails: the errors that opening and reading it may give. refuses: for how many items memory is refused.
use Rattle.std.specs.Prelude.{◌≡◌, ◌⊎◌, ◌<◌, ◌≤◌, ℕ, min, List, length, Option, Some, None, IfSome}
use Rattle.std.specs.declared.io.Error.{Error}
use Rattle.dl_memory.specs.Refusals.{IsRefused}
use Rattle.dl_open.specs.declared.strings.TheConstants.{STRINGS_LIMIT}
use Rattle.dl_sections.specs.declared.fault.RunFault.{RunFault}
use Rattle.dl_sections.specs.declared.fault.RunFault.TheVariants as fault
use Rattle.dl_print.specs.ValueText.{Strings}

-- these are all bytes of a file, and not more than the limit
abbrev pub FileHolds : (known : Option (List ℕ)) (limit : ℕ) (found : List ℕ) → Type 0
FileHolds known limit found = (length found ≤ limit) × IfSome known (λ bytes. found ≡ bytes)

-- opening a file or reading it may give an error
abbrev pub MayFail : (fails : Error → Type 0) → Type 0
MayFail fails = (error : Error) × fails error

-- how many bytes of a file are read at most
abbrev pub most_read : (known : Option (List ℕ)) (limit : ℕ) → ℕ
most_read None limit = limit
most_read (Some bytes) limit = min limit (length bytes)

-- a file couldn't be opened or read, which fails so; or memory was refused for its bytes, or it goes past the limit
abbrev pub FileStops : (Fails : Type 0) (refuses : ℕ → Type 0) (known : Option (List ℕ)) (limit : ℕ) → RunFault → Type 0
FileStops Fails refuses known limit fault.Read = Fails
FileStops Fails refuses known limit fault.NoMemory = IsRefused refuses (most_read known limit)
FileStops Fails refuses known limit fault.SectionTooLong = IfSome known (λ bytes. limit < length bytes)
FileStops Fails refuses known limit other = ⊥

-- the section in the file of a path; none where no path is given
abbrev pub IsSectionOf : (held : List ℕ → Option (List ℕ)) → Option (List ℕ) → Option (List ℕ) → Type 0
IsSectionOf held None section = section ≡ None
IsSectionOf held (Some path) section =
    (found : List ℕ) × (section ≡ Some found) × FileHolds (held path) STRINGS_LIMIT found

-- the sections in both files
pub record StringsAre (held : List ℕ → Option (List ℕ)) (line_str str : Option (List ℕ)) (s : Strings) : Type 0 where
  pub line_strings : IsSectionOf held line_str s.line_strings
  pub strings : IsSectionOf held str s.strings

-- the section in the file of a path stops the program
abbrev pub SectionFileStops : (refuses : ℕ → Type 0) (held : List ℕ → Option (List ℕ)) (fails : List ℕ → Error → Type 0)
    → Option (List ℕ) → RunFault → Type 0
SectionFileStops refuses held fails None f = ⊥
SectionFileStops refuses held fails (Some path) f = FileStops (MayFail (fails path)) refuses (held path) STRINGS_LIMIT f

-- that of the first file does, or once it was read that of the other
abbrev pub FilesStop : (refuses : ℕ → Type 0) (held : List ℕ → Option (List ℕ)) (fails : List ℕ → Error → Type 0)
    → (line_str str : Option (List ℕ)) → RunFault → Type 0
FilesStop refuses held fails line_str str f =
    SectionFileStops refuses held fails line_str f
    ⊎ ((section : Option (List ℕ)) × IsSectionOf held line_str section × SectionFileStops refuses held fails str f)
