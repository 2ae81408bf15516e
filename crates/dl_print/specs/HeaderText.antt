-- The lines of a header: the unit, its directories and its files. DWARF 5, section 6.2.4.
use Rattle.std.specs.Prelude.{ℕ, ◌+◌, List, [], ◌∷◌, ◌++◌, flat_map, codes, decimal}
use Rattle.std.specs.Option.{option_map_or}
use Rattle.dl_table.specs.declared.table.Pair.{Pair}
use Rattle.dl_table.specs.EntryData.{with_content}
use Rattle.dl_table.specs.TableData.{TableData}
use Rattle.dl_field.specs.HeaderData.{HeaderData}
use Rattle.dl_table.specs.Value.{Value}
use Rattle.dl_head.specs.Numbers.{file_numbered, first_number}
use Rattle.dl_print.specs.Text.{line, missing_line, unit_line}
use Rattle.dl_print.specs.ValueText.{Strings, named_value}

-- the values of an entry, each with the name of its content code. Section 6.2.4.1
abbrev pub items_text : Strings → List (ℕ × Value) → List ℕ
items_text s items = flat_map (λ (item : ℕ × Value). named_value s item.0 item.1) items

-- an entry of a table: the name, the number of the entry, and its values
abbrev pub entry_line : Strings → List ℕ → ℕ → List (ℕ × Value) → List ℕ
entry_line s name number items = line (name ++ decimal number ++ items_text s items)

-- a line for each entry, which are numbered from `first` on
abbrev pub entry_lines : Strings → List ℕ → List Pair → ℕ → List (List Value) → List ℕ
entry_lines s name pairs first [] = []
entry_lines s name pairs first (e ∷ entries) =
    entry_line s name first (with_content pairs e) ++ entry_lines s name pairs (first + 1) entries

-- a table of directories or files, whose entries are numbered from `first` on
abbrev pub table_text : Strings → List ℕ → (first : ℕ) → TableData → List ℕ
table_text s name first t = entry_lines s name t.pairs first t.entries

-- the tables of a header: its directories, its files
abbrev pub tables_text : Strings → HeaderData → List ℕ
tables_text s h =
    table_text s (codes "dir ") (first_number h.params) h.directories
    ++ table_text s (codes "file ") (first_number h.params) h.files

-- the header of a unit at that offset of the section: the unit, its directories, its files
abbrev pub header_text : Strings → ℕ → HeaderData → List ℕ
header_text s offset h =
    unit_line offset h.params ++ table_text s (codes "dir ") (first_number h.params) h.directories
    ++ table_text s (codes "file ") (first_number h.params) h.files

-- the file of that number, or that the table has none
abbrev pub file_text : Strings → HeaderData → ℕ → List ℕ
file_text s h file = option_map_or (entry_line s (codes "file ") file) (file_numbered h file) (missing_line file)
