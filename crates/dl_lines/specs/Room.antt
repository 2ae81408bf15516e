-- For how many items memory is wanted for what is told of units.
use Rattle.std.specs.Prelude.{ℕ, ◌+◌, ◌*◌, List, [], ◌∷◌, length, Option, Some}
use Rattle.std.specs.Option.{option_map_or}
use Rattle.dl_field.specs.HeaderData.{HeaderData}
use Rattle.dl_head.specs.Numbers.{first_number}
use Rattle.dl_path.specs.Paths.{beside_table, has_directory_0}
use Rattle.dl_path.specs.TextRoom.{text_room}
use Rattle.dl_print.specs.ValueText.{Strings}
use Rattle.dl_rows.specs.Items.{a_row}
use Rattle.dl_sections.specs.Section.{Visit, of_header, of_item}
use Rattle.dl_lines.specs.Places.{Known}

-- how many numbers of files there are up to the last of its table
abbrev pub files_count : HeaderData → ℕ
files_count h = first_number h.params + length h.files.entries

-- no path of a file under this header has more bytes: three texts, each with a slash after it, under the compilation directory
abbrev pub path_room : Strings → (directory : Option (List ℕ)) → HeaderData → ℕ
path_room s directory h = option_map_or length directory 0 + 3 * text_room s (Some h) + 3

-- the files of the table of a header at that offset, the paths of those, and the bytes of one of these
abbrev pub header_room : Known → (offset : ℕ) → HeaderData → ℕ
header_room known offset h =
    2 * files_count h + path_room known.strings (beside_table (has_directory_0 (Some h)) (known.directories offset)) h + 1

-- a row is one item
abbrev pub told_room : Known → List Visit → ℕ
told_room known [] = 0
told_room known (of_header offset lengths h ∷ visits) = header_room known offset h + told_room known visits
told_room known (of_item (a_row header r) ∷ visits) = 1 + told_room known visits
told_room known (visit ∷ visits) = told_room known visits
