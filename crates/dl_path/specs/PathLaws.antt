-- Law of the paths of files whose header becomes one of version 5. DWARF 5, sections 6.2.4 and 6.2.4.1; DWARF 4, section
-- 6.2.4.
use Rattle.std.specs.Prelude.{◌≡◌, ◌≤◌, ℕ, ◌==◌, if◌then◌else◌, List, [], Option, Some, option_map, unwrap_or}
use Rattle.std.specs.Option.{option_and_then}
use Rattle.dl_field.specs.HeaderData.{HeaderData}
use Rattle.dl_head.specs.Numbers.{file_numbered}
use Rattle.dl_print.specs.ValueText.{Strings}
use Rattle.dl_emit.specs.Conversion.{first_directory, to_version_5}
use Rattle.dl_emit.specs.ConversionLaws.{IsOlderHeader}
use Rattle.dl_path.specs.Paths.{directory_of, directory_text, is_whole, own_path, path_of, under}

-- directory n of a header of versions 2 to 4, of which directory 0 is the directory of the compilation, which no table
-- has; one that isn't whole is under that
abbrev pub directory_under : Strings → (compilation : List ℕ) → HeaderData → (n : ℕ) → Option (List ℕ)
directory_under s compilation h n =
    if n == 0 then Some compilation
    else option_map (λ path. if is_whole path then path else under compilation path) (directory_text s h n)

-- a file that isn't whole is under its directory, if that is there
abbrev pub path_under : Strings → (compilation : List ℕ) → HeaderData → (file : ℕ) → Option (List ℕ)
path_under s compilation h file =
    option_and_then (λ entry. option_map (λ path. if is_whole path then path
    else under (unwrap_or (directory_under s compilation h (directory_of entry)) []) path) (own_path s entry))
    (file_numbered h file)

-- the path of a file under the header in version 5 is that under its own header and the directory of the compilation
abbrev pub PathsMeanTheSame : Type 0
PathsMeanTheSame =
    (s : Strings) (h : HeaderData) (directory : Option (List ℕ)) (file : ℕ) → IsOlderHeader h → 1 ≤ file
    → path_of s (Some (to_version_5 h directory)) file ≡ path_under s (first_directory directory) h file
