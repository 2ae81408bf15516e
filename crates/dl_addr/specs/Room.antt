-- How much is kept of the paths of files. No promise rests on this file.
use Rattle.std.specs.Prelude.{◌≡◌, ℕ, ◌+◌, ◌*◌, ◌≤◌, List, length, Option, None}
use Rattle.std.specs.BTreeMap.{BTreeMap, get}
use Rattle.std.specs.Map.{update_all}
use Rattle.std.specs.Option.{option_copied, option_map_or}
use Rattle.std.specs.Ordering.{eq_by_cmp, nat_cmp}
use Rattle.dl_field.specs.HeaderData.{HeaderData, header_cells}
use Rattle.dl_addr.specs.declared.kept.Paths.{Paths}
use Rattle.dl_addr.specs.declared.texts.UnitFiles.{UnitFiles}
use Rattle.dl_addr.specs.declared.texts.UnitNumbers.{UnitNumbers}

-- no more paths than this many, and of each the texts of two directories and a name at most
pub record HasFew (paths : Paths) (count : ℕ) : Type 0 where
  pub files : length paths.files.items ≤ count
  pub texts : length paths.texts.items ≤ 3 * count

-- a map into which numbers were put so many times at most
pub record WasPut (numbers : BTreeMap ℕ ℕ) (count : ℕ) : Type 0 where
  pub pairs : List (ℕ × ℕ)
  pub few : length pairs ≤ count
  pub all : (n : ℕ) → get nat_cmp numbers n ≡ update_all (eq_by_cmp nat_cmp) (λ _. None) pairs n

-- what is kept of a unit and of the paths, where so many of them were kept at most
pub record KeepsFew (numbers : UnitNumbers) (paths : Paths) (count : ℕ) : Type 0 where
  pub few : HasFew paths count
  pub files : WasPut numbers.files count
  pub directories : WasPut numbers.directories (2 * count)

-- how many cells the header has, if there is one: so many bytes a text of it has at most
abbrev pub cells_of : Option HeaderData → ℕ
cells_of header = option_map_or header_cells header 0

abbrev pub unit_cells : UnitFiles → ℕ
unit_cells unit = cells_of (option_copied unit.header)

-- for how many items memory is asked for at most, for so many paths under this header
abbrev pub paths_room : (count : ℕ) → Option HeaderData → ℕ
paths_room count header = 3 * count + cells_of header
