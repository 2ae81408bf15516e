-- What `addr` is told, and what it keeps of it. No promise rests on this file.
use Rattle.std.specs.Prelude.{◌≡◌, ℕ, Bool, true, List, [], ◌∷◌, ◌++◌, length, is_some, slice_get, Option, Some, None}
use Rattle.std.specs.Prelude.{option_map}
use Rattle.std.specs.Option.{option_copied, option_or}
use Rattle.std.specs.Io.KnownBytes.{Appends}
use Rattle.dl_field.specs.HeaderData.{HeaderData}
use Rattle.dl_rows.specs.declared.row.Row.{Row}
use Rattle.dl_look.specs.declared.place.Place.{Place}
use Rattle.dl_look.specs.Answer.{answer}
use Rattle.dl_look.specs.FindersRows.{Stand, answered_count}
use Rattle.dl_look.specs.LiveRows.{live_rows, Tells}
use Rattle.dl_memory.specs.Refusals.{IsRefused}
use Rattle.dl_print.specs.ValueText.{strings_of}
use Rattle.dl_sections.specs.declared.fault.RunFault.{RunFault}
use Rattle.dl_sections.specs.declared.fault.RunFault.TheVariants.{NoMemory}
use Rattle.dl_sections.specs.Copying.{offset_after}
use Rattle.dl_sections.specs.RowsTold.{rows_after}
use Rattle.dl_rows.specs.Items.{a_row}
use Rattle.dl_sections.specs.Section.{Visit, of_header, of_item, of_end, of_damage}
use Rattle.dl_sections.specs.Visiting.{Story}
use Rattle.dl_addr.specs.declared.kept.PathUnit.{PathUnit}
use Rattle.dl_addr.specs.declared.locating.Locator.{Locator}
use Rattle.dl_addr.specs.Code.{is_code}
use Rattle.dl_dirs.specs.Compilation.{directory_by}
use Rattle.dl_addr.specs.Locations.{Located, compilation_directory}
use Rattle.dl_path.specs.Paths.{beside_table, path_of}
use Rattle.dl_addr.specs.Room.{HasFew, paths_room}
use Rattle.dl_addr.specs.Texts.{IsKept, named, printed, unit_place}

-- ---- what visits give; rows, offset: of the current unit before the visits

-- the live rows of the units that ended; those of a damaged one don't count
abbrev pub ended_rows : (live : ℕ → Bool) → List Row → List Visit → List (List Row)
ended_rows live rows [] = []
ended_rows live rows (of_item (a_row header r) ∷ visits) = ended_rows live (rows ++ r ∷ []) visits
ended_rows live rows (of_end h ∷ visits) = live_rows live rows ∷ ended_rows live [] visits
ended_rows live rows (of_damage unit at kind ∷ visits) = ended_rows live [] visits
ended_rows live rows (visit ∷ visits) = ended_rows live rows visits

-- the answer of a unit
abbrev pub located_under : (live : ℕ → Bool) → Place → List Row → (offset : ℕ) → Option HeaderData → Option Located
located_under live x rows offset h =
    option_map (λ r. record { row = r; header = h; unit = offset }) (answer (live_rows live rows) x)

-- the answer of the first unit that ended and has one
abbrev pub located_after : (live : ℕ → Bool) → Place → List Row → (offset : ℕ) → List Visit → Option Located
located_after live x rows offset [] = None
located_after live x rows offset (of_header n l h ∷ visits) = located_after live x rows n visits
located_after live x rows offset (of_item (a_row header r) ∷ visits) = located_after live x (rows ++ r ∷ []) offset visits
located_after live x rows offset (of_end h ∷ visits) =
    option_or (located_under live x rows offset h) (located_after live x [] offset visits)
located_after live x rows offset (of_damage unit at kind ∷ visits) = located_after live x [] offset visits
located_after live x rows offset (visit ∷ visits) = located_after live x rows offset visits

-- ---- the locator

abbrev pub code_of : {M : Type 0} → Locator M → ℕ → Bool
code_of l = is_code (option_copied l.code)

abbrev pub located_by : {M : Type 0} → Locator M → Place → List Visit → Option Located
located_by first x visits = located_after (code_of first) x [] first.unit visits

-- the path as far as it is kept, with its unit
abbrev pub path_of_located : {M : Type 0} → Locator M → Located → Option (List ℕ) × PathUnit
path_of_located first l = (
  named first.style (compilation_directory (directory_by first.directories) l)
      (path_of (strings_of first.strings.now) l.header l.row.file),
  unit_place l.header l.unit,
)

-- it as it is printed
abbrev pub printed_by : {M : Type 0} → Locator M → PathUnit → Option (List ℕ) → Option (List ℕ)
printed_by l unit path =
    printed l.style (beside_table unit.has_directory_0 (directory_by l.directories unit.offset)) path

-- it looks for these places
pub record LooksFor {M : Type 0} (first now : Locator M) (places : List Place) (visits : List Visit) : Type 0 where
  pub stand : Stand now.finders places (ended_rows (code_of first) [] visits)
      (live_rows (code_of first) (rows_after [] visits))
  pub count : length now.kept.items ≡ length places
  pub kept : (i : ℕ) (x : Place) (l : Located) → slice_get places i ≡ Some x → located_by first x visits ≡ Some l
      → IsKept now.paths now.kept.items i (path_of_located first l)

-- it was made for these places
pub record IsMadeFor {M : Type 0} (first : Locator M) (places : List Place) : Type 0 where
  pub stand : Stand first.finders places [] []
  pub count : length first.kept.items ≡ length places

pub record Locating {M : Type 0} (first now : Locator M) (start held : Option (List ℕ)) (visits : List Visit) : Type 0 where
  pub code : now.code ≡ first.code
  pub directories : now.directories ≡ first.directories
  pub style : now.style ≡ first.style
  pub strings : now.strings.now ≡ first.strings.now
  pub memory : now.memory.now ≡ first.memory.now
  pub unit : now.unit ≡ offset_after first.unit visits
  pub live : Tells now.live (code_of first) (rows_after [] visits)
  pub looks : (places : List Place) → IsMadeFor first places → LooksFor first now places visits
  pub few : HasFew now.paths (answered_count now.finders)
  pub nothing : Appends start held []

-- the last visit ends a unit that is the first to answer for a place, and memory was refused
pub record StopsAt {M : Type 0} (refuses : M → ℕ → Type 0) (first : Locator M) (visits : List Visit) (fault : RunFault)
    : Type 0 where
  pub is : fault ≡ NoMemory
  pub before : List Visit
  pub h : Option HeaderData
  pub whole : visits ≡ before ++ of_end h ∷ []
  pub answers : (places : List Place) → IsMadeFor first places
      → (i : ℕ) × (x : Place) × (slice_get places i ≡ Some x) × (located_by first x before ≡ None)
      × (is_some (located_by first x visits) ≡ true)
  pub refused : (places : List Place) → IsMadeFor first places
      → IsRefused (refuses first.memory.now) (paths_room (length places) h)

-- nothing is printed while it reads
abbrev pub locate_story : {M : Type 0} → (refuses : M → ℕ → Type 0) → Story (Locator M)
locate_story refuses = record {
  text = λ first visits. [];
  tells = Locating;
  is_done = λ first new start now visits. ⊥;
  refuses = StopsAt refuses;
}
