-- What visits tell of units. No promise rests on this file.
use Rattle.std.specs.Prelude.{◌≡◌, ℕ, List, [], ◌∷◌, ◌++◌, Option, Some, None, Result}
use Rattle.std.specs.Io.KnownBytes.{Appends}
use Rattle.dl_head.specs.declared.dialect.Dialect.{Dialect}
use Rattle.dl_rows.specs.declared.row.Row.{Row}
use Rattle.dl_rows.specs.Items.{a_row}
use Rattle.dl_sections.specs.declared.around.Survey.{Survey}
use Rattle.dl_sections.specs.declared.in_memory.Telling.{Telling}
use Rattle.dl_sections.specs.declared.in_memory.SectionRead.{SectionRead}
use Rattle.dl_sections.specs.declared.in_memory.SectionStop.{SectionStop}
use Rattle.dl_sections.specs.AroundInMemory.{ReadsAround}
use Rattle.dl_sections.specs.InMemory.{ReadsSection, UnitStory, UnitTold}
use Rattle.dl_sections.specs.Section.{Visit, of_header, of_version, of_item, of_open, of_end, of_damage}
use Rattle.dl_sections.specs.Visiting.{Story}

-- what was told so far: the units that are whole, and of the current one its offset, its version where such units aren't
-- read, and its rows
pub record Heard : Type 0 where
  pub offset : ℕ
  pub version : Option ℕ
  pub units : List UnitTold
  pub rows : List Row

abbrev pub with_visit : Heard → Visit → Heard
with_visit heard (of_header n l h) = record heard { offset = n; version = None }
with_visit heard (of_version n version) = record heard { offset = n; version = Some version }
with_visit heard (of_item (a_row header r)) = record heard { rows = heard.rows ++ r ∷ [] }
with_visit heard (of_item other) = heard
with_visit heard of_open = heard
with_visit heard (of_damage unit n kind) = record heard { rows = [] }
with_visit heard (of_end h) = record {
  offset = heard.offset;
  version = heard.version;
  units = heard.units ++ record {
    unit = record { offset = heard.offset; version = heard.version; header = h };
    rows = heard.rows;
  } ∷ [];
  rows = [];
}

abbrev pub heard_after : Heard → List Visit → Heard
heard_after heard [] = heard
heard_after heard (visit ∷ visits) = heard_after (with_visit heard visit) visits

-- where nothing was told yet
abbrev pub nothing_heard : {U : Type 0} → Telling U → Heard
nothing_heard first = record { offset = first.offset; version = first.version; units = []; rows = [] }

-- it was told what the visits tell, and passed it on
pub record PassedOn {U : Type 0} (first now : Telling U) (start held : Option (List ℕ)) (heard : Heard) : Type 0 where
  pub sink : now.sink.ghost_name ≡ first.sink.ghost_name
  pub offset : now.offset ≡ heard.offset
  pub version : now.version ≡ heard.version
  pub nothing : Appends start held []

pub record Tells {U : Type 0} (story : UnitStory U) (first now : Telling U) (start held : Option (List ℕ))
    (visits : List Visit) : Type 0 where
  pub passed : PassedOn first now start held (heard_after (nothing_heard first) visits)
  pub hears : story.hears first.sink.now now.sink.now (heard_after (nothing_heard first) visits).units
      (heard_after (nothing_heard first) visits).rows

pub record IsDone {U : Type 0} (story : UnitStory U) (first now : Telling U) (start held : Option (List ℕ))
    (visits : List Visit) : Type 0 where
  pub passed : PassedOn first now start held (heard_after (nothing_heard first) visits)
  pub done : story.is_done first.sink.now now.sink.now (heard_after (nothing_heard first) visits).units

-- nothing is printed
abbrev pub telling_story : {U : Type 0} → UnitStory U → Story (Telling U)
telling_story story = record {
  text = λ first visits. [];
  tells = Tells story;
  is_done = IsDone story;
  refuses = λ first visits fault. ⊥;
}

-- `read_known`
pub record PassesOn {U : Type 0} (story : UnitStory U) (dialect : Dialect) (s : List ℕ) (first now : Telling U)
    (result : Result SectionRead SectionStop) : Type 0 where
  pub sink : now.sink.ghost_name ≡ first.sink.ghost_name
  pub reads : ReadsSection story dialect s first.sink.now now.sink.now result

-- `read_known_around`
pub record PassesOnAround {U E : Type 0} (story : UnitStory U) (dialect : Dialect) (s : List ℕ) (first now : Telling U)
    (result : Result Survey E) : Type 0 where
  pub sink : now.sink.ghost_name ≡ first.sink.ghost_name
  pub reads : ReadsAround story dialect s first.sink.now now.sink.now result
