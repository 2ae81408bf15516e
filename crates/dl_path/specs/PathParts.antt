-- The parts of a path, with where they stand.
use Rattle.std.specs.Prelude.{◌≡◌, ◌≤◌, ℕ, List, [], length, Option, Some, IfSome, option_map, unwrap_or}
use Rattle.std.specs.Option.{option_and_then}
use Rattle.dl_field.specs.HeaderData.{HeaderData}
use Rattle.dl_print.specs.ValueText.{Strings}
use Rattle.dl_path.specs.declared.parts.Directory.{Directory}
use Rattle.dl_path.specs.declared.parts.Parts.{Parts}
use Rattle.dl_path.specs.declared.parts.Text.{Text}
use Rattle.dl_path.specs.declared.parts.Text.TheVariants.{Section, Header}
use Rattle.dl_path.specs.Paths.{directory_text, under}
use Rattle.dl_path.specs.PathTexts.{FileParts}

abbrev pub text_seen : Text → List ℕ
text_seen (Section w) = w.now
text_seen (Header w) = w.now

-- how many of its bytes stand in the unit's header: all or none
abbrev pub header_bytes : Text → ℕ
header_bytes (Section w) = 0
header_bytes (Header w) = length w.now

-- nothing where there is no directory
abbrev pub directory_seen : Option Directory → List ℕ
directory_seen d = unwrap_or (option_map (λ (d : Directory). text_seen d.text) d) []

-- the parts, by their texts alone
abbrev pub parts_apart : Parts → FileParts
parts_apart p = record { base = directory_seen p.base; directory = directory_seen p.directory; name = text_seen p.name }

abbrev pub parts_seen : Parts → List ℕ
parts_seen p = under (under (directory_seen p.base) (directory_seen p.directory)) (text_seen p.name)

-- the directories have the texts of their numbers
abbrev pub IsDirectory : (text : ℕ → Option (List ℕ)) → Option Directory → Type 0
IsDirectory text d = IfSome d (λ (d : Directory). text d.number ≡ Some (text_seen d.text))

pub record FromDirectories (text : ℕ → Option (List ℕ)) (p : Parts) : Type 0 where
  pub base : IsDirectory text p.base
  pub directory : IsDirectory text p.directory

-- the text of the directory of this number
abbrev pub text_of_directory : Strings → Option HeaderData → ℕ → Option (List ℕ)
text_of_directory s header n = option_and_then (λ (h : HeaderData). directory_text s h n) header

-- no part has more bytes than this in the header
pub record HeaderBytesWithin (most : ℕ) (p : Parts) : Type 0 where
  pub base : IfSome p.base (λ d. header_bytes d.text ≤ most)
  pub directory : IfSome p.directory (λ d. header_bytes d.text ≤ most)
  pub name : header_bytes p.name ≤ most
