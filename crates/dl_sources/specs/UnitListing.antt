-- What a lister of one unit is told, and what it keeps of it. No promise rests on this file.
use Rattle.std.specs.Prelude.{◌≡◌, ◌⊎◌, ℕ, ◌==◌, ◌&&◌, ◌||◌, Bool, true, false, if◌then◌else◌, is_some, not, List, [], ◌∷◌, ◌++◌}
use Rattle.std.specs.Prelude.{Option, Some, None, option_map}
use Rattle.std.specs.Io.KnownBytes.{Appends}
use Rattle.std.specs.List.{list_any}
use Rattle.std.specs.Option.{option_or}
use Rattle.dl_field.specs.HeaderData.{HeaderData}
use Rattle.dl_rows.specs.declared.sink.Flow.{Flow}
use Rattle.dl_rows.specs.declared.sink.Flow.TheVariants as flow
use Rattle.dl_sections.specs.declared.around.Damage.{Damage}
use Rattle.dl_sections.specs.declared.around.DamagedUnits.{DamagedUnits}
use Rattle.dl_sections.specs.declared.fault.RunFault.{RunFault}
use Rattle.dl_sections.specs.declared.fault.RunFault.TheVariants as fault
use Rattle.dl_sections.specs.Section.{Visit, of_damage, of_end, of_header, of_version}
use Rattle.dl_sections.specs.Visiting.{Story}
use Rattle.dl_sources.specs.declared.unit_listing.Current.{Current}
use Rattle.dl_sources.specs.declared.unit_listing.Current.TheVariants.{Foreign, Other, Own}
use Rattle.dl_sources.specs.declared.unit_listing.UnitLister.{UnitLister}
use Rattle.dl_sources.specs.Holding.{Holds}
use Rattle.dl_sources.specs.Listing.{Listing, RefusesAfter, told_by}

-- ---- visits; was: what the unit of the visit before is

abbrev pub known_as : (unit offset : ℕ) → Current → Current
known_as unit offset current = if offset == unit then current else Other

-- what the unit of a visit is, after it
abbrev pub is_then : (unit : ℕ) (was : Current) → Visit → Current
is_then unit was (of_header offset lengths h) = known_as unit offset Own
is_then unit was (of_version offset version) = known_as unit offset Foreign
is_then unit was (of_end h) = Other
is_then unit was (of_damage offset at kind) = Other
is_then unit was visit = was

abbrev pub is_after : (unit : ℕ) (was : Current) → List Visit → Current
is_after unit was [] = was
is_after unit was (visit ∷ visits) = is_after unit (is_then unit was visit) visits

abbrev pub is_own : Current → Bool
is_own Own = true
is_own current = false

abbrev pub is_other : Current → Bool
is_other Other = true
is_other current = false

-- the lister is told of it
abbrev pub is_told : (unit : ℕ) (was : Current) → Visit → Bool
is_told unit was (of_header offset lengths h) = offset == unit
is_told unit was (of_version offset version) = false
is_told unit was (of_damage offset at kind) = false
is_told unit was visit = is_own was

abbrev pub told_in : (unit : ℕ) (was : Current) → List Visit → List Visit
told_in unit was [] = []
told_in unit was (visit ∷ visits) =
    (if is_told unit was visit then visit ∷ [] else []) ++ told_in unit (is_then unit was visit) visits

-- the wanted unit is whole, and ends
abbrev pub is_last : (was : Current) → Visit → Bool
is_last was (of_end h) = not (is_other was)
is_last was visit = false

abbrev pub is_over : (unit : ℕ) (was : Current) → List Visit → Bool
is_over unit was [] = false
is_over unit was (visit ∷ visits) = is_last was visit || is_over unit (is_then unit was visit) visits

-- the damage of the wanted unit
abbrev pub damage_in : (unit : ℕ) → Visit → Option Damage
damage_in unit (of_damage offset at kind) = if offset == unit then Some (record { offset = at; kind = kind }) else None
damage_in unit visit = None

abbrev pub first_damage : (unit : ℕ) → List Visit → Option Damage
first_damage unit [] = None
first_damage unit (visit ∷ visits) = option_or (damage_in unit visit) (first_damage unit visits)

-- it is known to begin
abbrev pub begins : (unit : ℕ) → Visit → Bool
begins unit (of_header offset lengths h) = offset == unit
begins unit (of_version offset version) = offset == unit
begins unit visit = false

abbrev pub begins_in : (unit : ℕ) → List Visit → Bool
begins_in unit visits = list_any (begins unit) visits

-- ---- the lister

-- the visits since some first state that its lister was told
abbrev pub told_since : {M : Type 0} → UnitLister M → List Visit → List Visit
told_since first visits = told_in first.unit first.current visits

-- it was told these visits, and goes on
pub record GoesOnWithUnit {M : Type 0} (refuses : M → ℕ → Type 0) (first now : UnitLister M) (start held : Option (List ℕ))
    (visits : List Visit) : Type 0 where
  pub unit : now.unit ≡ first.unit
  pub current : now.current ≡ is_after first.unit first.current visits
  pub damage : now.damage ≡ option_or first.damage (first_damage first.unit visits)
  pub not_whole : now.is_whole ≡ false
  pub sufficed : now.lister.is_refused ≡ false
  pub going : is_over first.unit first.current visits ≡ false
  pub listing : Listing refuses first.lister now.lister start held (told_since first visits)

-- the last of these visits ends the wanted unit, of which the lister was told
pub record EndsWhole {M : Type 0} (refuses : M → ℕ → Type 0) (first now : UnitLister M) (visits : List Visit) : Type 0 where
  pub before : List Visit
  pub header : Option HeaderData
  pub ends : visits ≡ before ++ of_end header ∷ []
  pub going : is_over first.unit first.current before ≡ false
  pub current : is_other (is_after first.unit first.current before) ≡ false
  pub whole : now.is_whole ≡ true
  pub table : now.lister.is_refused ≡ false → Holds now.lister.table (told_by first.lister (told_since first visits))
  pub refused : now.lister.is_refused ≡ true → RefusesAfter refuses first.lister (told_since first before)

-- or the wanted unit is damaged
pub record EndsDamaged {M : Type 0} (first now : UnitLister M) (visits : List Visit) : Type 0 where
  pub not_whole : now.is_whole ≡ false
  pub sufficed : now.lister.is_refused ≡ false
  pub damage : now.damage ≡ option_or first.damage (first_damage first.unit visits)
  pub is_damaged : is_some now.damage ≡ true

-- it was told these visits, and wants nothing more
pub record EndsWithUnit {M : Type 0} (refuses : M → ℕ → Type 0) (first now : UnitLister M) (start held : Option (List ℕ))
    (visits : List Visit) : Type 0 where
  pub ended : EndsWhole refuses first now visits ⊎ EndsDamaged first now visits
  pub nothing : Appends start held []

-- memory was refused for the header of the wanted unit
pub record StopsForUnit {M : Type 0} (refuses : M → ℕ → Type 0) (first : UnitLister M) (visits : List Visit) (f : RunFault)
    : Type 0 where
  pub is : f ≡ fault.NoMemory
  pub begins : begins_in first.unit visits ≡ true
  pub refused : RefusesAfter refuses first.lister (told_since first visits)

-- nothing is printed, and it stops for want of memory alone
abbrev pub unit_story : {M : Type 0} → (refuses : M → ℕ → Type 0) → Story (UnitLister M)
unit_story refuses = record {
  text = λ first visits. [];
  tells = GoesOnWithUnit refuses;
  is_done = EndsWithUnit refuses;
  refuses = λ first visits f. StopsForUnit refuses first visits f;
}

-- ---- the answer

-- at the end of another unit
abbrev pub after_another : Option Damage → Flow
after_another None = flow.On
after_another (Some damage) = flow.Stop

abbrev pub of_damaged : Option Damage → RunFault
of_damaged (Some damage) = fault.Damage damage.offset damage.kind
of_damaged None = fault.NoUnit

-- where no whole unit begins at the offset
abbrev pub not_whole : (own : Option Damage) → Option DamagedUnits → RunFault
not_whole own damaged = of_damaged (option_or own (option_map (λ (units : DamagedUnits). units.first) damaged))
