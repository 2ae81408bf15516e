-- The parts of the path of a file are no longer than the string sections and the header's tables.
use Rattle.std.proofs.Common.{◌≤◌, ℕ, ◌+◌, ◌-◌, Bool, true, false, ◌||◌, List, [], ◌∷◌, length, Option, Some, None}
use Rattle.std.proofs.Common.{arith, sum_by}
use Rattle.std.specs.Prelude.{cond, ◌==◌, option_map, unwrap_or, slice_get, nat_lt, IfSome}
use Rattle.std.specs.Option.{option_and_then, option_map_or}
use Rattle.dl_table.specs.EntryData.{value_of, with_content}
use Rattle.dl_table.specs.TableCells.{table_cells, value_cells}
use Rattle.dl_table.specs.TableData.{TableData}
use Rattle.dl_table.proofs.TextLemmas.{Few, fewer, text_at_few}
use Rattle.dl_path.proofs.HeaderTextLemmas.{row_cells, row_within, value_within}
use Rattle.dl_table.specs.Value.{Value, text, line_str, str, str_sup, number, block, data16}
use Rattle.dl_field.specs.HeaderData.{HeaderData}
use Rattle.dl_head.specs.Numbers.{entry_numbered, first_number, file_numbered}
use Rattle.dl_print.specs.ValueText.{Strings, text_in_section}
use Rattle.dl_path.specs.Paths.{directory_of, directory_text, is_whole, own_path, text_of}
use Rattle.dl_path.specs.PathTexts.{base_of, by_itself, entry_parts, parts_in}
use Rattle.dl_path.specs.TextRoom.{PartsHaveRoom, PartsWithin, strings_len, text_room}

-- ---- texts

in_section : (o : Option (List ℕ)) (n : ℕ) → Few (option_map_or length o 0) (text_in_section o n)
in_section None n = tt
in_section (Some b) n = text_at_few b n

-- the text of a value stands in a string section, or its bytes are cells
text_few : (s : Strings) (v : Value) → Few (strings_len s + value_cells v) (text_of s v)
text_few s (text w) = omega arith
text_few s (line_str n) =
    fewer (option_map_or length s.line_strings 0) (strings_len s + 1) (text_in_section s.line_strings n)
    (in_section s.line_strings n) (omega arith)
text_few s (str n) =
    fewer (option_map_or length s.strings 0) (strings_len s + 1) (text_in_section s.strings n)
    (in_section s.strings n) (omega arith)
text_few s (str_sup n) = tt
text_few s (number n) = tt
text_few s (block w) = tt
text_few s (data16 w) = tt

-- ---- entries

module _ (s : Strings) where
  -- the own path of an entry of a table
  own_few : (t : TableData) (first n : ℕ)
      → Few (strings_len s + table_cells t) (option_and_then (own_path s) (entry_numbered first t n))
  own_few t first n = by (nat_lt n first) (slice_get t.entries (n - first)) (row_within t.entries (n - first)) where
    of_value : (values : List Value) (o : Option Value) → row_cells values ≤ sum_by row_cells t.entries
        → IfSome o (λ v. value_cells v ≤ row_cells values)
        → Few (strings_len s + table_cells t) (option_and_then (text_of s) o)
    of_value values None within few = tt
    of_value values (Some v) within few =
        fewer (strings_len s + value_cells v) (strings_len s + table_cells t) (text_of s v) (text_few s v)
        (omega (arith, within, few))

    by : (before : Bool) (o : Option (List Value)) → IfSome o (λ e. row_cells e ≤ sum_by row_cells t.entries)
        → Few (strings_len s + table_cells t)
        (option_and_then (own_path s) (cond before None (option_map (with_content t.pairs) o)))
    by true o within = tt
    by false None within = tt
    by false (Some values) within =
        of_value values (value_of (with_content t.pairs values) 1) within (value_within t.pairs values 1)

  module _ (h : HeaderData) where
    abbrev most : ℕ
    most = text_room s (Some h)

    directory_few : (n : ℕ) → Few most (directory_text s h n)
    directory_few n =
        fewer (strings_len s + table_cells h.directories) most (directory_text s h n)
        (own_few h.directories (first_number h.params) n) (omega arith)

    file_few : (file : ℕ) → Few most (option_and_then (own_path s) (file_numbered h file))
    file_few file =
        fewer (strings_len s + table_cells h.files) most (option_and_then (own_path s) (file_numbered h file))
        (own_few h.files (first_number h.params) file) (omega arith)

    base_few : (n : ℕ) (directory : List ℕ) → length (base_of s h n directory) ≤ most
    base_few n directory = by (is_whole directory || (n == 0)) (directory_text s h 0) (directory_few 0) where
      by : (none : Bool) (o : Option (List ℕ)) → Few most o → length (cond none [] (unwrap_or o [])) ≤ most
      by true o few = omega arith
      by false None few = omega arith
      by false (Some w) few = few

    parts_few : (n : ℕ) (name : List ℕ) → length name ≤ most → PartsWithin most (parts_in s h n name)
    parts_few n name few = by (directory_text s h n) (directory_few n) where
      by : (o : Option (List ℕ)) → Few most o
          → PartsWithin most (option_map_or (λ directory. record {
            base = base_of s h n directory;
            directory = directory;
            name = name;
          }) o (by_itself name))
      by None within = record { base = omega arith; directory = omega arith; name = few }
      by (Some directory) within = record { base = base_few n directory; directory = within; name = few }

    entry_within : (entry : List (ℕ × Value)) → Few most (own_path s entry)
        → IfSome (entry_parts s h entry) (PartsWithin most)
    entry_within entry few = by (own_path s entry) few where
      of_name : (whole : Bool) (name : List ℕ) → length name ≤ most
          → PartsWithin most (cond whole (by_itself name) (parts_in s h (directory_of entry) name))
      of_name true name few = record { base = omega arith; directory = omega arith; name = few }
      of_name false name few = parts_few (directory_of entry) name few

      by : (o : Option (List ℕ)) → Few most o
          → IfSome (option_map (λ name. cond (is_whole name) (by_itself name) (parts_in s h (directory_of entry) name)) o)
          (PartsWithin most)
      by None few = tt
      by (Some name) few = of_name (is_whole name) name few

pub parts_have_room : PartsHaveRoom
parts_have_room s None file = tt
parts_have_room s (Some h) file = by (file_numbered h file) (file_few s h file) where
  by : (o : Option (List (ℕ × Value))) → Few (text_room s (Some h)) (option_and_then (own_path s) o)
      → IfSome (option_and_then (entry_parts s h) o) (PartsWithin (text_room s (Some h)))
  by None few = tt
  by (Some entry) few = entry_within s h entry few
