-- The path of a file as the texts that it is made of: the directories that it is in, each with the slash after it, and its own
-- path. DWARF 5, sections 6.2.4 and 6.2.4.1.
use Rattle.std.specs.Prelude.{ℕ, ◌||◌, ◌==◌, if◌then◌else◌, List, [], ◌∷◌, ◌++◌, Option, option_map, unwrap_or}
use Rattle.std.specs.Option.{option_and_then, option_map_or}
use Rattle.dl_field.specs.HeaderData.{HeaderData}
use Rattle.dl_head.specs.Numbers.{file_numbered}
use Rattle.dl_table.specs.Value.{Value}
use Rattle.dl_print.specs.ValueText.{Strings}
use Rattle.dl_path.specs.Paths.{directory_of, directory_text, is_whole, own_path, slash_after, under}

-- directory 0 where it comes before the directory, the directory, and the file's own path; a directory that isn't there is
-- empty
pub record FileParts : Type 0 where
  pub base : List ℕ
  pub directory : List ℕ
  pub name : List ℕ

abbrev pub joined : FileParts → List ℕ
joined p = under (under p.base p.directory) p.name

-- a path with no directory before it
abbrev pub by_itself : (name : List ℕ) → FileParts
by_itself name = record { base = []; directory = []; name = name }

-- what comes before directory n: nothing where it is whole, or is directory 0; else directory 0, if that is there
abbrev pub base_of : Strings → HeaderData → (n : ℕ) → (directory : List ℕ) → List ℕ
base_of s h n directory = if is_whole directory || (n == 0) then [] else unwrap_or (directory_text s h 0) []

-- a path in directory n, if that is there
abbrev pub parts_in : Strings → HeaderData → (n : ℕ) → (name : List ℕ) → FileParts
parts_in s h n name =
    option_map_or (λ directory. record { base = base_of s h n directory; directory = directory; name = name })
    (directory_text s h n) (by_itself name)

-- a file that isn't whole is in its directory
abbrev pub entry_parts : Strings → HeaderData → List (ℕ × Value) → Option FileParts
entry_parts s h entry =
    option_map (λ name. if is_whole name then by_itself name else parts_in s h (directory_of entry) name) (own_path s entry)

-- None where the file isn't there, or the text of its own path
abbrev pub file_parts : Strings → Option HeaderData → (file : ℕ) → Option FileParts
file_parts s header file = option_and_then (λ h. option_and_then (entry_parts s h) (file_numbered h file)) header

-- what comes before a path: nothing where it is whole, else the compilation directory, if that is known
abbrev pub root_of : (directory : Option (List ℕ)) → (path : List ℕ) → List ℕ
root_of directory path = if is_whole path then [] else unwrap_or directory []

-- a directory, with what stands between it and a path in it
abbrev pub folder : List ℕ → List ℕ
folder directory = directory ++ slash_after directory

-- an empty one is left out
abbrev pub text_if_any : List ℕ → List (List ℕ)
text_if_any [] = []
text_if_any (b ∷ text) = (b ∷ text) ∷ []

-- the compilation directory and directory 0 in one text, the directory, and the file's own path
abbrev pub texts_under : (directory : Option (List ℕ)) → FileParts → List (List ℕ)
texts_under directory p =
    text_if_any (folder (root_of directory (joined p)) ++ folder p.base)
    ++ (text_if_any (folder p.directory) ++ p.name ∷ [])

-- the texts of the path of a file, under the compilation directory that counts; none where it has no path
abbrev pub path_texts : Strings → (directory : Option (List ℕ)) → Option HeaderData → (file : ℕ) → List (List ℕ)
path_texts s directory header file = option_map_or (texts_under directory) (file_parts s header file) []
