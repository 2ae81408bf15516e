-- What a dump of one unit is told and prints. No promise rests on this file.
use Rattle.std.specs.Prelude.{◌≡◌, ⊤, Bool, true, false, ◌||◌, ℕ, List, [], ◌∷◌, Option}
use Rattle.std.specs.Option.{option_or}
use Rattle.dl_sections.specs.declared.around.Damage.{Damage}
use Rattle.dl_sections.specs.Section.{Visit}
use Rattle.dl_sections.specs.Visiting.{Story}
use Rattle.dl_dump.specs.declared.dumping.NoneTold.{NoneTold}
use Rattle.dl_dump.specs.declared.unit_dumping.UnitDumper.{UnitDumper}
use Rattle.dl_dump.specs.DetailText.{shown_after}
use Rattle.dl_dump.specs.Dumping.{HasShown, style_of}
use Rattle.dl_dump.specs.UnitCommand.{begins_at, first_damage, is_of, is_over, visits_of}

-- the last visit is of the unit; was: the one before the first is
abbrev pub ends_in : (unit : ℕ) (was : Bool) → List Visit → Bool
ends_in unit was [] = was
ends_in unit was (visit ∷ visits) = ends_in unit (is_of unit was visit) visits

-- the visits since some first state that are of its unit
abbrev pub told_since : UnitDumper → List Visit → List Visit
told_since first visits = visits_of first.unit first.is_current visits

abbrev pub none_heard : NoneTold → NoneTold → List Damage → Type 0
none_heard first new told = ⊤

-- the text of the visits of the unit is printed
pub record HasShownUnit (first now : UnitDumper) (start held : Option (List ℕ)) (visits : List Visit) : Type 0 where
  pub unit : now.unit ≡ first.unit
  pub current : now.is_current ≡ ends_in first.unit first.is_current visits
  pub begun : now.has_begun ≡ (first.has_begun || begins_at first.unit visits)
  pub damage : now.damage ≡ option_or first.damage (first_damage (told_since first visits))
  pub shown : HasShown none_heard first.dumper now.dumper start held (told_since first visits)

-- and it goes on
pub record GoesOnWithUnit (first now : UnitDumper) (start held : Option (List ℕ)) (visits : List Visit) : Type 0 where
  pub told : HasShownUnit first now start held visits
  pub going : is_over first.unit first.has_begun visits ≡ false

-- or it wants nothing more
pub record EndsWithUnit (first now : UnitDumper) (start held : Option (List ℕ)) (visits : List Visit) : Type 0 where
  pub told : HasShownUnit first now start held visits
  pub over : is_over first.unit first.has_begun visits ≡ true

abbrev pub unit_story : Story UnitDumper
unit_story = record {
  text = λ first visits. shown_after (style_of first.dumper) first.dumper.at (told_since first visits);
  tells = GoesOnWithUnit;
  is_done = EndsWithUnit;
  refuses = λ first visits fault. ⊥;
}
