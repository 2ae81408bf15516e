-- What a maker of an index is told, and what it keeps of it. No promise rests on this file.
use Rattle.std.specs.Prelude.{◌≡◌, ◌⊎◌, ◌≤◌, ℕ, ◌+◌, ◌*◌, ◌<◌, ◌^◌, Bool, true, false, length, List, [], ◌∷◌, ◌++◌, slice_get, Option, Some}
use Rattle.std.specs.Option.{option_copied, option_map}
use Rattle.std.specs.Io.KnownBytes.{Appends}
use Rattle.dl_field.specs.HeaderData.{HeaderData}
use Rattle.dl_rows.specs.declared.row.Row.{Row}
use Rattle.dl_look.specs.LiveRows.{live_answer}
use Rattle.dl_print.specs.ValueText.{strings_of}
use Rattle.dl_path.specs.Paths.{beside_table, has_directory_0}
use Rattle.dl_path.specs.TextRoom.{text_room}
use Rattle.dl_dirs.specs.Compilation.{directory_by}
use Rattle.dl_sections.specs.declared.fault.RunFault.{RunFault}
use Rattle.dl_sections.specs.declared.fault.RunFault.TheVariants.{NoMemory}
use Rattle.dl_sections.specs.Copying.{offset_after, row_count}
use Rattle.dl_sections.specs.RowsTold.{rows_after}
use Rattle.dl_sections.specs.Section.{Visit}
use Rattle.dl_sections.specs.Visiting.{Story}
use Rattle.dl_addr.specs.Code.{is_code}
use Rattle.dl_addr.specs.Locating.{located_after}
use Rattle.dl_index.specs.Stretches.{Told}
use Rattle.dl_stretch.specs.Kept.{kept_count, unit_count, whole_count}
use Rattle.dl_stretch.specs.Runs.{place_at}
use Rattle.dl_stretch.specs.Stands.{Stands}
use Rattle.dl_stretch.specs.ToldUnits.{UnitRows, told_of_units}
use Rattle.dl_pack.specs.Named.{Named, Grows, Once}
use Rattle.dl_pack.specs.Shown.{named_files, texts_of}
use Rattle.dl_pack.specs.Telling.{named_told}
use Rattle.dl_making.specs.declared.maker.Maker.{Maker}
use Rattle.dl_making.specs.Few.{AddsFew, AreFew, TextsWithin, names_room, path_text}
use Rattle.dl_making.specs.Files.{named_file}
use Rattle.dl_making.specs.Room.{DirectoriesWithin, longest_text, making_room}
use Rattle.dl_making.specs.TellsMany.{TellsMany}
use Rattle.dl_making.specs.Telling.{told_of}

abbrev pub code_of : {M : Type 0} → Maker M → ℕ → Bool
code_of m = is_code (option_copied m.code)

-- what the visits tell of an address
abbrev pub told_after : {M : Type 0} → Maker M → List Visit → ℕ → Option Told
told_after first visits a =
    option_map (told_of (strings_of first.strings.now) (directory_by first.directories))
    (located_after (code_of first) (place_at a) [] first.unit visits)

-- a file of the current unit, whose header this is
abbrev pub file_named : {M : Type 0} → Maker M → Option HeaderData → ℕ → Named
file_named m h file =
    named_file (strings_of m.strings.now) (beside_table (has_directory_0 h) (directory_by m.directories m.unit)) h m.unit file

-- what it was made with, and is told of the section
pub record IsSame {M : Type 0} (first now : Maker M) : Type 0 where
  pub memory : now.memory.now ≡ first.memory.now
  pub code : now.code ≡ first.code
  pub directories : now.directories ≡ first.directories
  pub strings : now.strings.now ≡ first.strings.now

-- the runs and the files tell what the visits do
pub record Tells {M : Type 0} (first now : Maker M) (visits : List Visit) : Type 0 where
  pub units : List UnitRows
  pub stands : Stands (code_of first) now.runs units (rows_after [] visits)
  pub tells : (a : ℕ) → a < 2 ^ 64
      → option_map (named_told (named_files now.names)) (told_of_units (code_of first) units a)
      ≡ option_map Some (told_after first visits a)
  pub once : Once (named_files now.names)

-- it keeps a run or a span for a row at most, and for a run a file and three texts, none of which is longer than of a section
-- that may tell these visits
pub record KeepsFew {M : Type 0} (first now : Maker M) (visits : List Visit) : Type 0 where
  pub kept : kept_count now.runs ≤ row_count visits
  pub files : length (named_files now.names) ≤ whole_count now.runs
  pub texts : length (texts_of now.names) ≤ 3 * whole_count now.runs
  pub each : (directory bytes : ℕ) → DirectoriesWithin directory first.directories → AreFew bytes visits
      → TextsWithin (longest_text (strings_of first.strings.now) directory bytes) (texts_of now.names)

-- memory was refused for no more than the room of a section that may tell these visits
abbrev pub RefusesAfter : {M : Type 0} → (refuses : M → ℕ → Type 0) → (first : Maker M) → List Visit → Type 0
RefusesAfter refuses first visits =
    (n : ℕ) × refuses first.memory.now n
    × ((directory bytes : ℕ) → DirectoriesWithin directory first.directories → AreFew bytes visits
    → n ≤ making_room (strings_of first.strings.now) directory bytes)

-- or for the index of what they tell there would be too many files or texts
abbrev pub WantsAfter : {M : Type 0} → (refuses : M → ℕ → Type 0) → (first : Maker M) → List Visit → Type 0
WantsAfter refuses first visits = RefusesAfter refuses first visits ⊎ TellsMany (told_after first visits)

-- it was told these visits; where it says that memory was refused no more is known than that
pub record Making {M : Type 0} (refuses : M → ℕ → Type 0) (first now : Maker M) (start held : Option (List ℕ))
    (visits : List Visit) : Type 0 where
  pub same : IsSame first now
  pub unit : now.unit ≡ offset_after first.unit visits
  pub tells : now.is_refused ≡ false → Tells first now visits
  pub few : now.is_refused ≡ false → KeepsFew first now visits
  pub refused : now.is_refused ≡ true → RefusesAfter refuses first visits
  pub nothing : Appends start held []

-- it was told some visits
abbrev pub WasTold : {M : Type 0} → (refuses : M → ℕ → Type 0) → Maker M → Type 0
WasTold {M} refuses m =
    (first : Maker M) × (start : Option (List ℕ)) × (held : Option (List ℕ)) × (visits : List Visit)
    × Making refuses first m start held visits

-- no text of a path has more bytes of the current unit, whose header this is
abbrev pub text_in_unit : {M : Type 0} → Maker M → Option HeaderData → ℕ
text_in_unit m h =
    path_text (beside_table (has_directory_0 h) (directory_by m.directories m.unit)) (text_room (strings_of m.strings.now) h)

-- what its end wants memory for at most
abbrev pub end_room : {M : Type 0} → Maker M → Option HeaderData → ℕ
end_room m h = names_room (text_in_unit m h) m.names (unit_count m.runs)

-- the current unit has ended, with this header: its files have their numbers
pub record EndsUnit {M : Type 0} (old new : Maker M) (h : Option HeaderData) : Type 0 where
  pub kept : kept_count new.runs ≤ kept_count old.runs
  pub whole : whole_count new.runs ≡ whole_count old.runs + unit_count old.runs
  pub few : AddsFew (3 * unit_count old.runs) (unit_count old.runs) (text_in_unit old h) old.names new.names
  pub grows : Grows (named_files old.names) (named_files new.names)
  pub once : Once (named_files old.names) → Once (named_files new.names)
  pub number : ℕ → ℕ
  pub stands : (live : ℕ → Bool) (units : List UnitRows) (rows : List Row) → Stands live old.runs units rows
      → Stands live new.runs (units ++ record { number = number; rows = rows } ∷ []) []
  pub numbered : (live : ℕ → Bool) (units : List UnitRows) (rows : List Row) → Stands live old.runs units rows
      → (a : ℕ) (r : Row) → a < 2 ^ 64 → live_answer live rows (place_at a) ≡ Some r
      → slice_get (named_files new.names) (number r.file) ≡ Some (file_named old h r.file)

-- memory was refused for what it was told
pub record StopsFor {M : Type 0} (refuses : M → ℕ → Type 0) (first : Maker M) (visits : List Visit) (fault : RunFault)
    : Type 0 where
  pub is : fault ≡ NoMemory
  pub refused : RefusesAfter refuses first visits

-- nothing is printed, and it stops for want of memory alone
abbrev pub making_story : {M : Type 0} → (refuses : M → ℕ → Type 0) → Story (Maker M)
making_story refuses = record {
  text = λ first visits. [];
  tells = Making refuses;
  is_done = λ first new start now visits. ⊥;
  refuses = λ first visits fault. StopsFor refuses first visits fault;
}
