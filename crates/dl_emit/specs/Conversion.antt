-- The header of version 5 that says what one of versions 2 to 4 says. DWARF 5, sections 6.2.4 and 6.2.4.1; DWARF 4,
-- section 6.2.4.
use Rattle.std.specs.Prelude.{ℕ, Bool, not, List, [], ◌∷◌, ◌++◌, map, Option, Some, None, unwrap_or, ◌==◌}
use Rattle.std.specs.Prelude.{if◌then◌else◌}
use Rattle.std.specs.List.{list_any}
use Rattle.dl_table.specs.declared.form.Form.TheVariants as form
use Rattle.dl_table.specs.declared.table.Pair.{Pair}
use Rattle.dl_table.specs.EntryData.{with_content, value_of}
use Rattle.dl_table.specs.TableData.{TableData}
use Rattle.dl_table.specs.Text.{text_in}
use Rattle.dl_table.specs.Value.{Value, text, number}
use Rattle.dl_field.specs.declared.params.Params.{Params}
use Rattle.dl_field.specs.HeaderData.{HeaderData}

-- ---- the entries of versions 2 to 4: a path (content 1); of a file also its directory (2), time (3) and size (4)

-- the entries of a table, each value with its content code
abbrev pub entries_in : TableData → List (List (ℕ × Value))
entries_in t = map (with_content t.pairs) t.entries

abbrev pub text_or_empty : Option Value → List ℕ
text_or_empty (Some (text w)) = w
text_or_empty other = []

-- the path of an entry; empty where it has none
abbrev pub path_in : List (ℕ × Value) → List ℕ
path_in entry = text_or_empty (value_of entry 1)

abbrev pub number_or_zero : Option Value → ℕ
number_or_zero (Some (number n)) = n
number_or_zero other = 0

-- the number of an entry with this content code; 0 where it has none
abbrev pub number_in : List (ℕ × Value) → (content : ℕ) → ℕ
number_in entry content = number_or_zero (value_of entry content)

-- ---- the tables of version 5

-- DW_LNCT_path in DW_FORM_string
abbrev pub path_pair : Pair
path_pair = record { content = 1; form = form.String }

-- another content code in DW_FORM_udata
abbrev pub number_pair : ℕ → Pair
number_pair content = record { content = content; form = form.Udata }

-- the bytes before the first zero byte; all where there is none
abbrev pub before_zero : List ℕ → List ℕ
before_zero w = unwrap_or (text_in w) w

-- directory 0, the compilation directory up to its first zero byte; "." where it isn't known
abbrev pub first_directory : Option (List ℕ) → List ℕ
first_directory None = 0x2e ∷ []
first_directory (Some directory) = before_zero directory

abbrev pub path_entry : List ℕ → List Value
path_entry path = text path ∷ []

abbrev pub directory_entry : List (ℕ × Value) → List Value
directory_entry directory = path_entry (path_in directory)

-- directory 0, then the directories that were numbered from 1 on
abbrev pub new_directories : (directory : Option (List ℕ)) → TableData → TableData
new_directories directory old = record {
  format = old.format;
  pairs = path_pair ∷ [];
  entries = path_entry (first_directory directory) ∷ map directory_entry (entries_in old);
}

-- a file has a number other than 0 with this content code
abbrev pub has_number : (content : ℕ) → List (ℕ × Value) → Bool
has_number content file = not (number_in file content == 0)

-- times are kept where any isn't 0, and so are sizes
abbrev pub kept_numbers : (times sizes : Bool) → List ℕ
kept_numbers times sizes = 2 ∷ (if times then 3 ∷ [] else []) ++ (if sizes then 4 ∷ [] else [])

-- the content codes of the numbers that the files have in version 5
abbrev pub file_numbers : List (List (ℕ × Value)) → List ℕ
file_numbers files = kept_numbers (list_any (has_number 3) files) (list_any (has_number 4) files)

abbrev pub file_pairs : (numbers : List ℕ) → List Pair
file_pairs numbers = path_pair ∷ map number_pair numbers

abbrev pub file_entry : (numbers : List ℕ) → List (ℕ × Value) → List Value
file_entry numbers file = text (path_in file) ∷ map (λ content. number (number_in file content)) numbers

-- the first of a list, if there is one
abbrev pub first_of : {A : Type 0} → List A → List A
first_of [] = []
first_of (x ∷ xs) = x ∷ []

-- file 0, which is file 1 again, then the files that were numbered from 1 on
abbrev pub new_files : TableData → TableData
new_files old =
    let files = entries_in old in let numbers = file_numbers files in record {
      format = old.format;
      pairs = file_pairs numbers;
      entries = map (file_entry numbers) (first_of files ++ files);
    }

-- ---- the header

abbrev pub version_5_params : Params → Params
version_5_params p = record p { version = 5 }

-- the header in version 5, the compilation directory being given where it is known; one of version 5 stays as it is
abbrev pub to_version_5 : HeaderData → (directory : Option (List ℕ)) → HeaderData
to_version_5 h directory =
    if h.params.version == 5 then h else record {
      params = version_5_params h.params;
      directories = new_directories directory h.directories;
      files = new_files h.files;
    }
