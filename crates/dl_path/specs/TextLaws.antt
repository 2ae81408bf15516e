-- Laws of the parts and the texts that the path of a file is made of. DWARF 5, sections 6.2.4 and 6.2.4.1.
use Rattle.std.specs.Prelude.{◌≡◌, ◌≤◌, ℕ, List, [], Option, option_map, length}
use Rattle.std.specs.List.{concat}
use Rattle.std.specs.Option.{option_map_or}
use Rattle.dl_field.specs.HeaderData.{HeaderData}
use Rattle.dl_print.specs.ValueText.{Strings}
use Rattle.dl_path.specs.Paths.{compiled_in, path_of}
use Rattle.dl_path.specs.PathTexts.{file_parts, joined, path_texts}

-- the parts, each in the one before it, are the path
abbrev pub PartsMakePath : Type 0
PartsMakePath =
    (s : Strings) (header : Option HeaderData) (file : ℕ)
    → option_map joined (file_parts s header file) ≡ path_of s header file

-- the texts, one after the other, are the path under the compilation directory; none where there is no path
abbrev pub TextsMakePath : Type 0
TextsMakePath =
    (s : Strings) (directory : Option (List ℕ)) (header : Option HeaderData) (file : ℕ)
    → concat (path_texts s directory header file) ≡ option_map_or (compiled_in directory) (path_of s header file) []

abbrev pub AtMostThree : Type 0
AtMostThree =
    (s : Strings) (directory : Option (List ℕ)) (header : Option HeaderData) (file : ℕ)
    → length (path_texts s directory header file) ≤ 3
