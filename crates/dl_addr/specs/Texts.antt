-- The paths that are kept. No promise rests on this file.
use Rattle.std.specs.Prelude.{◌≡◌, ◌≢◌, ℕ, ◌<◌, ◌+◌, ◌-◌, ◌^◌, min, List, [], ◌++◌, length, slice_get, slice_index_or, if◌then◌else◌}
use Rattle.std.specs.Prelude.{Option, Some, None, option_map, unwrap_or}
use Rattle.std.specs.BTreeMap.{BTreeMap, get}
use Rattle.std.specs.Option.{option_and_then, option_copied}
use Rattle.std.specs.Ordering.{nat_cmp}
use Rattle.dl_field.specs.HeaderData.{HeaderData}
use Rattle.dl_head.specs.Numbers.{first_number}
use Rattle.dl_look.specs.declared.ledger.Answered.{Answered}
use Rattle.dl_look.specs.Ledgers.{no_answer}
use Rattle.dl_print.specs.ValueText.{strings_of}
use Rattle.dl_addr.specs.declared.style.Style.{Style}
use Rattle.dl_addr.specs.declared.kept.FilePath.{FilePath}
use Rattle.dl_addr.specs.declared.kept.KeptPath.{KeptPath}
use Rattle.dl_addr.specs.declared.kept.PathUnit.{PathUnit}
use Rattle.dl_addr.specs.declared.kept.Paths.{Paths}
use Rattle.dl_addr.specs.declared.texts.UnitFiles.{UnitFiles}
use Rattle.dl_addr.specs.declared.texts.UnitNumbers.{UnitNumbers}
use Rattle.dl_path.specs.PathParts.{text_of_directory}
use Rattle.dl_path.specs.Paths.{compiled_in, has_directory_0, path_of, under}
use Rattle.dl_path.specs.Shown.{basename}

-- ---- texts

abbrev pub text_at : List (List ℕ) → ℕ → Option (List ℕ)
text_at texts k = slice_get texts k

-- a part of a path, which may lack; None where its text isn't there
abbrev pub part_at : List (List ℕ) → Option ℕ → Option (List ℕ)
part_at texts None = Some []
part_at texts (Some k) = text_at texts k

-- texts are added after those before
abbrev pub TextsGrow : List (List ℕ) → List (List ℕ) → Type 0
TextsGrow old new = (more : List (List ℕ)) × (new ≡ old ++ more)

-- each number that was seen has a text, which is kept
abbrev pub AreTexts : (f : ℕ → Option (List ℕ)) → BTreeMap ℕ ℕ → List (List ℕ) → Type 0
AreTexts f numbers texts = (n k : ℕ) → get nat_cmp numbers n ≡ Some k
    → (w : List ℕ) × (f n ≡ Some w) × (text_at texts k ≡ Some w)

-- ---- paths

-- as far as it is kept: as the table has it, or the last component alone of the path under the compilation directory, where
-- that is asked for
abbrev pub named : Style → (directory : Option (List ℕ)) → Option (List ℕ) → Option (List ℕ)
named style directory path =
    option_map (λ p. if style.basenames then basename (compiled_in directory p) else p) path

abbrev pub text_or_none : List (List ℕ) → Option ℕ → List ℕ
text_or_none texts number = unwrap_or (option_and_then (text_at texts) number) []

abbrev pub path_at : List (List ℕ) → FilePath → Option (List ℕ)
path_at texts f =
    option_map (under (under (text_or_none texts f.base) (text_or_none texts f.directory)))
    (option_and_then (text_at texts) f.name)

-- what is kept of a unit with this header at this offset
abbrev pub unit_place : Option HeaderData → (offset : ℕ) → PathUnit
unit_place h offset = record { offset = offset; has_directory_0 = has_directory_0 h }

-- a path as far as it is kept, as it is printed: under the compilation directory, but where its last component alone is
-- asked for
abbrev pub printed : Style → (directory : Option (List ℕ)) → Option (List ℕ) → Option (List ℕ)
printed style directory path = if style.basenames then path else option_map (compiled_in directory) path

-- under a compilation directory, where there is one
abbrev pub rooted : Option (List ℕ) → List ℕ → List ℕ
rooted root path = under (unwrap_or root []) path

-- of a file whose own path is this one: as the unit's table has it, and as it is printed
abbrev pub path_in_table : KeptPath → List ℕ → List ℕ
path_in_table p name =
    under (under (text_or_none p.texts.now p.file.now.base) (text_or_none p.texts.now p.file.now.directory)) name

abbrev pub path_named : KeptPath → List ℕ → List ℕ
path_named p name = rooted (option_copied p.root) (path_in_table p name)

unfoldable pub path_kept : KeptPath → Option (List ℕ)
path_kept p = option_map (rooted (option_copied p.root)) (path_at p.texts.now p.file.now)

-- the texts make up the path
pub record IsPath (texts : List (List ℕ)) (f : FilePath) (path : Option (List ℕ)) : Type 0 where
  pub base : List ℕ
  pub directory : List ℕ
  pub name : Option (List ℕ)
  pub has_base : part_at texts f.base ≡ Some base
  pub has_directory : part_at texts f.directory ≡ Some directory
  pub has_name : option_map (text_at texts) f.name ≡ option_map Some name
  pub is : path ≡ option_map (under (under base directory)) name

-- the path of this number, with its unit
pub record HasPath (paths : Paths) (number : ℕ) (path : Option (List ℕ) × PathUnit) : Type 0 where
  pub file : FilePath
  pub at : slice_get paths.files.items number ≡ Some file
  pub is_path : IsPath paths.texts.items file path.0
  pub unit : file.unit ≡ path.1

-- paths are added after those before
pub record Grows (old new : Paths) : Type 0 where
  pub files : (more : List FilePath) × (new.files.items ≡ old.files.items ++ more)
  pub texts : TextsGrow old.texts.items new.texts.items

-- ---- a unit

-- what is kept of the unit itself
abbrev pub place_of : UnitFiles → PathUnit
place_of u = unit_place (option_copied u.header) u.offset

-- the path of a file of the unit as far as it is kept, with the unit
abbrev pub path_of_file : UnitFiles → ℕ → Option (List ℕ) × PathUnit
path_of_file u file = (
  named u.style (option_copied u.directory) (path_of (strings_of u.strings.now) (option_copied u.header) file),
  place_of u,
)

-- a number from which on a unit has no files
abbrev pub files_end : HeaderData → ℕ
files_end h = min (first_number h.params + length h.files.entries) (2 ^ 64 - 1)

abbrev pub directory_text : UnitFiles → ℕ → Option (List ℕ)
directory_text u n = text_of_directory (strings_of u.strings.now) (option_copied u.header) n

-- each file and each directory that was seen has its number
pub record AreSeen (u : UnitFiles) (numbers : UnitNumbers) (paths : Paths) : Type 0 where
  pub files : (file k : ℕ) → get nat_cmp numbers.files file ≡ Some k → HasPath paths k (path_of_file u file)
  pub directories : AreTexts (directory_text u) numbers.directories paths.texts.items
  pub last : (file k : ℕ) → numbers.last ≡ Some (file, k) → HasPath paths k (path_of_file u file)

-- the path of the place of number i is kept
pub record IsKept (paths : Paths) (kept : List ℕ) (i : ℕ) (path : Option (List ℕ) × PathUnit) : Type 0 where
  pub number : ℕ
  pub entry : slice_get kept i ≡ Some number
  pub is : HasPath paths number path

-- the places are other ones, and each has its number among the kept ones
pub record AreNumbers (answered : List Answered) (kept : List ℕ) : Type 0 where
  pub once : (j m : ℕ) → j < length answered → m < length answered
      → (slice_index_or answered j no_answer).number ≡ (slice_index_or answered m no_answer).number → j ≡ m
  pub within : (j : ℕ) → j < length answered → (slice_index_or answered j no_answer).number < length kept

-- the place is none of the first `count`
abbrev pub IsOther : List Answered → (count i : ℕ) → Type 0
IsOther answered count i = (j : ℕ) → j < count → (slice_index_or answered j no_answer).number ≢ i
