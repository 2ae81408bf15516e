-- A law of paths in listings. DWARF 5, sections 3.1.1 and 6.2.4.
use Rattle.std.specs.Prelude.{◌≡◌, ℕ, List, Option, codes}
use Rattle.std.specs.Option.{option_map_or}
use Rattle.dl_field.specs.HeaderData.{HeaderData}
use Rattle.dl_path.specs.Paths.{compiled_in, path_of}
use Rattle.dl_path.specs.PathTexts.{path_texts}
use Rattle.dl_path.specs.Shown.{shown}
use Rattle.dl_print.specs.ValueText.{Strings}
use Rattle.dl_listing.specs.Listing.{path_text}

-- of the texts that the path of a file is made of, what is shown is the path under the compilation directory, shown whole
abbrev pub PathsAreShownWhole : Type 0
PathsAreShownWhole =
    (s : Strings) (directory : Option (List ℕ)) (header : Option HeaderData) (file : ℕ)
    → path_text (path_texts s directory header file)
    ≡ option_map_or (λ path. shown (compiled_in directory path)) (path_of s header file) (codes "??")
