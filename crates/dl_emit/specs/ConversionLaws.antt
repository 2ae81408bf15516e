-- Laws of headers that are made ones of version 5. DWARF 5, sections 6.2.4 and 6.2.4.1; DWARF 4, section 6.2.4.
use Rattle.std.specs.Prelude.{◌≡◌, ◌≤◌, ℕ, ◌+◌, ◌*◌, List, [], ◌∷◌, length, Option, Some, option_map, unwrap_or}
use Rattle.dl_num.specs.Laws.{AllBytes}
use Rattle.dl_table.specs.EntryData.{value_of}
use Rattle.dl_table.specs.Value.{Value, text}
use Rattle.dl_field.specs.HeaderData.{HeaderData, header_cells}
use Rattle.dl_field.specs.Layout.{listed_directory, listed_file}
use Rattle.dl_head.specs.declared.dialect.Dialect.{Dialect}
use Rattle.dl_head.specs.Header.{IsHeader}
use Rattle.dl_head.specs.Numbers.{directory_numbered, file_numbered}
use Rattle.dl_head.specs.Sound.{IsSoundHeader}
use Rattle.dl_emit.specs.Conversion.{first_directory, number_in, to_version_5}

-- a header as bytes of versions 2 to 4 say it: a directory has a path; a file a path, a directory, a time and a size
pub record IsOlderHeader (h : HeaderData) : Type 0 where
  pub sound : IsSoundHeader h
  pub older : h.params.version ≡ 5 → ⊥
  pub directories : h.directories.pairs ≡ listed_directory
  pub files : h.files.pairs ≡ listed_file

-- What an entry says of a file: its path, the number of its directory, its time and size.
pub record FileSaid : Type 0 where
  pub path : Option Value
  pub directory : Option Value
  pub time : ℕ
  pub size : ℕ

abbrev pub said_of : List (ℕ × Value) → FileSaid
said_of entry = record {
  path = value_of entry 1;
  directory = value_of entry 2;
  time = number_in entry 3;
  size = number_in entry 4;
}

-- each number from 1 on means the same directory and the same file, or none, as before
pub record MeansTheSame (old new : HeaderData) : Type 0 where
  pub directories : (n : ℕ) → 1 ≤ n → directory_numbered new n ≡ directory_numbered old n
  pub files : (n : ℕ) → 1 ≤ n → option_map said_of (file_numbered new n) ≡ option_map said_of (file_numbered old n)

-- so it is in version 5, where directory 0 is the compilation directory, and file 0 is file 1 again
abbrev pub NumbersMeanTheSame : Type 0
NumbersMeanTheSame =
    (h : HeaderData) (directory : Option (List ℕ)) → IsOlderHeader h
    → MeansTheSame h (to_version_5 h directory)
    × (directory_numbered (to_version_5 h directory) 0 ≡ Some ((1, text (first_directory directory)) ∷ []))
    × (file_numbered (to_version_5 h directory) 0 ≡ file_numbered (to_version_5 h directory) 1)

-- a header of a version before 5 that bytes spell is as these versions have it
abbrev pub ReadIsOlder : Type 0
ReadIsOlder =
    (dialect : Dialect) (h : HeaderData) (w : List ℕ) → IsHeader dialect h w → AllBytes w → (h.params.version ≡ 5 → ⊥)
    → IsOlderHeader h

-- the tables of version 5 hold no more cells than eight times those of the header, one for each byte of the directory, and
-- seven
abbrev pub NewCellsAreFew : Type 0
NewCellsAreFew =
    (h : HeaderData) (directory : Option (List ℕ)) → IsSoundHeader h
    → header_cells (to_version_5 h directory) ≤ 8 * header_cells h + length (unwrap_or directory []) + 7
