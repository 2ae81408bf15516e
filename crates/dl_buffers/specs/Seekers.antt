-- The sink that looks a place up. No promise rests on this file.
use Rattle.std.specs.Prelude.{◌≡◌, List, [], ◌∷◌, ◌++◌, Some, None}
use Rattle.std.specs.List.{AllByRecursion}
use Rattle.dl_rows.specs.declared.row.Row.{Row}
use Rattle.dl_look.specs.Answer.{answer}
use Rattle.dl_look.specs.declared.place.Place.{Place}
use Rattle.dl_look.specs.FinderRows.{StandsFor}
use Rattle.dl_sections.specs.InMemory.{UnitStory, UnitTold}
use Rattle.dl_buffers.specs.declared.finding.Seeker.{Seeker}

-- none of the units has an answer
abbrev pub NoneTold : Place → List UnitTold → Type 0
NoneTold x units = AllByRecursion (λ t. answer t.rows x ≡ None) units

-- none of the units has an answer, and it looks on
pub record LooksOn (first now : Seeker) (units : List UnitTold) (rows : List Row) : Type 0 where
  pub place : now.place ≡ first.place
  pub found : now.found ≡ None
  pub none : NoneTold first.place units
  pub stands : StandsFor now.finder first.place rows

-- the last of the units is the first that has an answer
pub record HasFound (first now : Seeker) (units : List UnitTold) : Type 0 where
  pub before : List UnitTold
  pub last : UnitTold
  pub whole : units ≡ before ++ last ∷ []
  pub none : NoneTold first.place before
  pub row : Row
  pub answers : answer last.rows first.place ≡ Some row
  pub found : now.found ≡ Some (record { row = row; unit = last.unit.offset })

abbrev pub seeker_story : UnitStory Seeker
seeker_story = record { hears = LooksOn; is_done = HasFound }
