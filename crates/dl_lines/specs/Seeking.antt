-- What `lines` is told, and what it keeps of it. No promise rests on this file.
use Rattle.std.specs.Prelude.{◌≡◌, ℕ, ◌+◌, ◌<◌, Bool, true, false, if◌then◌else◌, List, [], ◌∷◌, ◌++◌, length, slice_index_or, Option, Some, None}
use Rattle.std.specs.Option.{option_copied}
use Rattle.std.specs.Io.KnownBytes.{Appends}
use Rattle.dl_rows.specs.Items.{a_row}
use Rattle.dl_rows.specs.declared.row.Row.{Row}
use Rattle.dl_look.specs.LiveRows.{live_rows, Tells}
use Rattle.dl_memory.specs.Refusals.{IsRefused}
use Rattle.dl_print.specs.ValueText.{strings_of}
use Rattle.dl_sections.specs.declared.fault.RunFault.TheVariants.{NoMemory}
use Rattle.dl_sections.specs.Section.{Visit, of_header, of_item, of_end, of_damage}
use Rattle.dl_sections.specs.Visiting.{Story}
use Rattle.dl_addr.specs.Code.{is_code}
use Rattle.dl_dirs.specs.Compilation.{directory_by}
use Rattle.dl_lines.specs.declared.question.Wanted.{Wanted}
use Rattle.dl_lines.specs.declared.search.Search.{Search}
use Rattle.dl_lines.specs.declared.seeker.LineSeeker.{LineSeeker}
use Rattle.dl_lines.specs.Places.{CodePlace, Known, path_in, places_after, places_of_rows}
use Rattle.dl_lines.specs.Room.{files_count, told_room}
use Rattle.dl_lines.specs.Runs.{TellsFirst}
use Rattle.dl_lines.specs.Searching.{IsNew, Stands}

-- ---- what visits tell

-- the places of the units that have ended; of the current unit the paths of its files, and its rows; and how many rows and
-- files were told
pub record Heard : Type 0 where
  pub ended : List CodePlace
  pub path : ℕ → Option (List ℕ)
  pub rows : List Row
  pub row_count : ℕ
  pub file_count : ℕ

abbrev pub no_path : ℕ → Option (List ℕ)
no_path file = None

-- those of the current unit
abbrev pub current_places : Known → Heard → List CodePlace
current_places known heard = places_of_rows known.live heard.path heard.rows

abbrev pub with_visit : Known → Heard → Visit → Heard
with_visit known heard (of_header offset l h) = record heard {
  path = path_in known offset (Some h);
  rows = [];
  file_count = heard.file_count + files_count h;
}
with_visit known heard (of_item (a_row header r)) = record heard { rows = heard.rows ++ r ∷ []; row_count = heard.row_count + 1 }
with_visit known heard (of_end h) = record heard {
  ended = heard.ended ++ current_places known heard;
  path = no_path;
  rows = [];
}
with_visit known heard (of_damage unit offset kind) = record heard { path = no_path; rows = [] }
with_visit known heard visit = heard

abbrev pub heard_after : Known → Heard → List Visit → Heard
heard_after known heard [] = heard
heard_after known heard (visit ∷ visits) = heard_after known (with_visit known heard visit) visits

abbrev pub nothing_heard : Heard
nothing_heard = record { ended = []; path = no_path; rows = []; row_count = 0; file_count = 0 }

-- ---- the seeker

abbrev pub known_of : {M : Type 0} → LineSeeker M → Known
known_of l = record {
  live = is_code (option_copied l.code);
  strings = strings_of l.strings.now;
  directories = directory_by l.directories;
}

-- its searches were made for what is wanted
pub record IsMadeFor {M : Type 0} (first : LineSeeker M) (wanted : List Wanted) (exact : Bool) : Type 0 where
  pub count : length first.searches.items ≡ length wanted
  pub new : (i : ℕ) (d : Search) (w : Wanted) → i < length wanted
      → IsNew (slice_index_or first.searches.items i d) (slice_index_or wanted i w) exact

-- each search stands for what was heard
abbrev pub AllStand : (searches : List Search) → (wanted : List Wanted) (exact : Bool) → Known → Heard → Type 0
AllStand searches wanted exact known heard =
    (length searches ≡ length wanted) × ((i : ℕ) (d : Search) (w : Wanted) → i < length wanted
    → Stands (slice_index_or searches i d) (slice_index_or wanted i w) exact heard.ended (current_places known heard)
    heard.path heard.row_count heard.file_count)

-- it has what was heard
pub record Hears {M : Type 0} (first now : LineSeeker M) (heard : Heard) : Type 0 where
  pub live : Tells now.live (known_of first).live heard.rows
  pub statements : TellsFirst now.statements (live_rows (known_of first).live heard.rows)
  pub searches : (wanted : List Wanted) (exact : Bool) → IsMadeFor first wanted exact
      → AllStand now.searches.items wanted exact (known_of first) heard

-- memory was refused for what is wanted and was told
abbrev pub Refused : {M : Type 0} → (refuses : M → ℕ → Type 0) → (first : LineSeeker M) → List Visit → Type 0
Refused refuses first visits =
    (wanted : List Wanted) (exact : Bool) → IsMadeFor first wanted exact
    → IsRefused (refuses first.memory.now) (told_room (known_of first) visits)

pub record Seeking {M : Type 0} (refuses : M → ℕ → Type 0) (first now : LineSeeker M) (start held : Option (List ℕ))
    (visits : List Visit) : Type 0 where
  pub code : now.code ≡ first.code
  pub directories : now.directories ≡ first.directories
  pub strings : now.strings.now ≡ first.strings.now
  pub memory : now.memory.now ≡ first.memory.now
  pub whole : now.is_refused ≡ false → Hears first now (heard_after (known_of first) nothing_heard visits)
  pub refused : now.is_refused ≡ true → Refused refuses first visits
  pub nothing : Appends start held []

-- nothing is printed while it reads
abbrev pub seek_story : {M : Type 0} → (refuses : M → ℕ → Type 0) → Story (LineSeeker M)
seek_story refuses = record {
  text = λ first visits. [];
  tells = Seeking refuses;
  is_done = λ first new start now visits. ⊥;
  refuses = λ first visits f. (f ≡ NoMemory) × Refused refuses first visits;
}

-- the next row is told, of which these came before
pub record TakesRow {M : Type 0} (old new : LineSeeker M) (rows : List Row) (r : Row) (taken : Bool) : Type 0 where
  pub live : Tells new.live (known_of old).live (rows ++ r ∷ [])
  pub statements : TellsFirst new.statements (live_rows (known_of old).live (rows ++ r ∷ []))
  pub places : places_after [] (live_rows (known_of old).live (rows ++ r ∷ []))
      ≡ places_after [] (live_rows (known_of old).live rows) ++ (if taken then r ∷ [] else [])
