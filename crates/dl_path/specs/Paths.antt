-- The path of a file under the header of its unit. DWARF 5, sections 6.2.4 and 6.2.4.1.
use Rattle.std.specs.Prelude.{ℕ, Bool, false, not, ◌||◌, ◌&&◌, nat_le, ◌==◌, if◌then◌else◌, List, [], ◌∷◌, ◌++◌, Option}
use Rattle.std.specs.Prelude.{Some, None, option_map, unwrap_or}
use Rattle.std.specs.Option.{option_and_then, option_map_or}
use Rattle.dl_table.specs.EntryData.{value_of}
use Rattle.dl_field.specs.HeaderData.{HeaderData}
use Rattle.dl_head.specs.Numbers.{directory_numbered, file_numbered}
use Rattle.dl_table.specs.Value.{Value, text, line_str, str, number}
use Rattle.dl_print.specs.ValueText.{Strings, text_in_section}

-- the text of a value, in its table or in a string section
abbrev pub text_of : Strings → Value → Option (List ℕ)
text_of s (text w) = Some w
text_of s (line_str n) = text_in_section s.line_strings n
text_of s (str n) = text_in_section s.strings n
text_of s other = None

-- content 1 (DW_LNCT_path)
abbrev pub own_path : Strings → List (ℕ × Value) → Option (List ℕ)
own_path s entry = option_and_then (text_of s) (value_of entry 1)

abbrev pub number_or_zero : Option Value → ℕ
number_or_zero (Some (number n)) = n
number_or_zero other = 0

-- content 2 (DW_LNCT_directory_index), 0 where there is none
abbrev pub directory_of : List (ℕ × Value) → ℕ
directory_of entry = number_or_zero (value_of entry 2)

abbrev pub is_letter : ℕ → Bool
is_letter b = (nat_le 0x41 b && nat_le b 0x5a) || (nat_le 0x61 b && nat_le b 0x7a)

-- a slash or a backslash
abbrev pub is_slash : ℕ → Bool
is_slash b = (b == 0x2f) || (b == 0x5c)

-- a letter, a colon, and a slash or a backslash
abbrev pub has_drive : List ℕ → Bool
has_drive (letter ∷ colon ∷ slash ∷ path) = is_letter letter && ((colon == 0x3a) && is_slash slash)
has_drive path = false

-- two backslashes, before the name of a machine
abbrev pub has_machine : List ℕ → Bool
has_machine (first ∷ second ∷ path) = (first == 0x5c) && (second == 0x5c)
has_machine path = false

-- as whole paths of Windows begin
abbrev pub is_of_windows : List ℕ → Bool
is_of_windows path = has_drive path || has_machine path

abbrev pub begins_with : ℕ → List ℕ → Bool
begins_with b [] = false
begins_with b (c ∷ path) = c == b

-- it stands for itself, under no directory
abbrev pub is_whole : List ℕ → Bool
is_whole path = begins_with 0x2f path || is_of_windows path

-- what stands between a directory and a path in it: nothing where the directory is empty, or ends with a slash
abbrev pub slash_after : (directory : List ℕ) → List ℕ
slash_after [] = []
slash_after (b ∷ []) = if b == 0x2f then [] else 0x2f ∷ []
slash_after (b ∷ c ∷ directory) = slash_after (c ∷ directory)

abbrev pub under : (directory path : List ℕ) → List ℕ
under directory path = directory ++ slash_after directory ++ path

-- content 1 of directory n
abbrev pub directory_text : Strings → HeaderData → ℕ → Option (List ℕ)
directory_text s h n = option_and_then (own_path s) (directory_numbered h n)

-- directory n; one that isn't whole is under directory 0, if that is there
abbrev pub directory_path : Strings → HeaderData → ℕ → Option (List ℕ)
directory_path s h n =
    option_map (λ path. if is_whole path || (n == 0) then path
    else under (unwrap_or (directory_text s h 0) []) path) (directory_text s h n)

-- a file that isn't whole is under its directory, if that is there
abbrev pub file_path : Strings → HeaderData → List (ℕ × Value) → Option (List ℕ)
file_path s h entry =
    option_map (λ path. if is_whole path then path
    else under (unwrap_or (directory_path s h (directory_of entry)) []) path) (own_path s entry)

-- from version 5 on directory 0 is that of the compilation
abbrev pub has_directory_0 : Option HeaderData → Bool
has_directory_0 header = option_map_or (λ (h : HeaderData). h.params.version == 5) header false

-- the compilation directory that counts for a unit, of which this one is said: where the unit's table has one too, one
-- that isn't whole adds nothing
abbrev pub beside_table : (has : Bool) → Option (List ℕ) → Option (List ℕ)
beside_table has directory = option_and_then (λ d. if has && not (is_whole d) then None else Some d) directory

-- a path that isn't whole is under the compilation directory, if that is known
abbrev pub compiled_in : Option (List ℕ) → List ℕ → List ℕ
compiled_in directory path = if is_whole path then path else under (unwrap_or directory []) path

-- None where the file isn't there, or the text of its own path
abbrev pub path_of : Strings → Option HeaderData → (file : ℕ) → Option (List ℕ)
path_of s header file = option_and_then (λ h. option_and_then (file_path s h) (file_numbered h file)) header
