-- How much is kept while an index is made. No promise rests on this file.
use Rattle.std.specs.Prelude.{◌≤◌, ℕ, ◌+◌, ◌*◌, List, [], ◌∷◌, length, Option}
use Rattle.std.specs.List.{All}
use Rattle.std.specs.Option.{option_copied, option_map_or}
use Rattle.dl_field.specs.HeaderData.{header_cells}
use Rattle.dl_print.specs.ValueText.{strings_of}
use Rattle.dl_path.specs.TextRoom.{text_room}
use Rattle.dl_sections.specs.Copying.{row_count}
use Rattle.dl_sections.specs.Section.{Visit, of_header}
use Rattle.dl_pack.specs.declared.names.Names.{Names}
use Rattle.dl_pack.specs.Shown.{named_files, texts_of}
use Rattle.dl_making.specs.declared.files.UnitFiles.{UnitFiles}

-- none of the texts has more bytes
abbrev pub TextsWithin : (most : ℕ) → List (List ℕ) → Type 0
TextsWithin most texts = All (λ (text : List ℕ). length text ≤ most) texts

-- so many texts and files are added at most, and none of the texts has more bytes
pub record AddsFew (texts files most : ℕ) (old new : Names) : Type 0 where
  pub texts_few : length (texts_of new) ≤ length (texts_of old) + texts
  pub files_few : length (named_files new) ≤ length (named_files old) + files
  pub each : (longest : ℕ) → most ≤ longest → TextsWithin longest (texts_of old) → TextsWithin longest (texts_of new)

-- no text of a path has more bytes under this compilation directory, of which no part has more than `most`
abbrev pub path_text : (directory : Option (List ℕ)) → (most : ℕ) → ℕ
path_text directory most = option_map_or length directory 0 + most + 2

-- nor one of a file of the unit
abbrev pub unit_text : UnitFiles → ℕ
unit_text u = path_text (option_copied u.directory) (text_room (strings_of u.strings.now) (option_copied u.header))

-- what the numbers of files that so many runs name want memory for at most, beside the texts and files that are there
abbrev pub names_room : (most : ℕ) → Names → (runs : ℕ) → ℕ
names_room most names runs = most + length (texts_of names) + length (named_files names) + 4 * runs + 3

-- how many cells the headers hold that visits tell
abbrev pub cells_told : List Visit → ℕ
cells_told [] = 0
cells_told (of_header offset l h ∷ visits) = cells_told visits + header_cells h
cells_told (visit ∷ visits) = cells_told visits

-- they tell no more rows and cells than there are bytes
pub record AreFew (bytes : ℕ) (visits : List Visit) : Type 0 where
  pub rows : row_count visits ≤ bytes
  pub cells : cells_told visits ≤ bytes
