-- How the reader of a section stands that passes over damaged units. No promise rests on this file.
use Rattle.std.specs.Prelude.{◌≡◌, ◌⊎◌, false, ℕ, ◌+◌, ◌-◌, max, min, List, [], ◌∷◌, ◌++◌, length, Option, Some, None}
use Rattle.std.specs.Prelude.{Result, Ok, Err}
use Rattle.dl_head.specs.declared.dialect.Dialect.{Dialect}
use Rattle.dl_head.specs.Header.{unit_len}
use Rattle.dl_table.specs.declared.fault.FaultKind.{FaultKind}
use Rattle.dl_rows.specs.ReaderStands.{StandsFor}
use Rattle.dl_rows.specs.declared.sink.Flow.{Flow}
use Rattle.dl_rows.specs.declared.sink.Flow.TheVariants as flow
use Rattle.dl_print.specs.Counts.{add}
use Rattle.dl_sections.specs.declared.around.Damage.{Damage}
use Rattle.dl_sections.specs.declared.around.Survey.{Survey}
use Rattle.dl_sections.specs.declared.around.UnitsAround.{UnitsAround}
use Rattle.dl_sections.specs.declared.fault.RunFault.{RunFault}
use Rattle.dl_sections.specs.declared.fault.RunFault.TheVariants as fault
use Rattle.dl_sections.specs.declared.section.SectionUnits.{SectionUnits}
use Rattle.dl_sections.specs.Around.{Block, Rest, begun, broken, bytes_of, damaged_units, faults_of, IsCut, IsCutTo}
use Rattle.dl_sections.specs.Around.{IsSoundSoFar, survey_of, units_around, visits_around}
use Rattle.dl_sections.specs.Section.{Visit, RefusesCell, of_damage}
use Rattle.dl_sections.specs.UnitsRead.{Before, UnitsAre}
use Rattle.dl_sections.specs.Visiting.{Settled, Story, VisitorStops, WritesFront}

-- it stands before a unit at that offset, and has counted the same units
pub record BeginsAt (offset : ℕ) (old new : SectionUnits) : Type 0 where
  pub dialect : new.dialect ≡ old.dialect
  pub reader_dialect : new.reader.dialect ≡ old.dialect
  pub stands : StandsFor new.reader []
  pub offset_is : new.offset ≡ offset
  pub foreign : new.is_foreign ≡ false
  pub sequences : new.sequences ≡ 0
  pub rows : new.rows ≡ 0
  pub summary : new.summary ≡ old.summary

-- after a damaged unit of that length, which isn't known where its initial length isn't good
abbrev pub NextBegins : (len : Option ℕ) (old new : UnitsAround) → Flow → Type 0
NextBegins None old new result = (result ≡ flow.Stop) × (new.units ≡ old.units)
NextBegins (Some n) old new result =
    (result ≡ flow.On) × BeginsAt (max (add old.units.offset n) (add old.read 1)) old.units new.units

-- it is told that a unit is damaged, and prints nothing; none of its own reasons is damage
pub record IsTold {S : Type 0} (story : Story S) (old new : S) (unit : ℕ) (damage : Damage) : Type 0 where
  pub tells : (first : S) (start now : Option (List ℕ)) (visits : List Visit) → story.tells first old start now visits
      → story.tells first new start now (visits ++ of_damage unit damage.offset damage.kind ∷ [])
  pub quiet : (first : S) (visits : List Visit)
      → story.text first (visits ++ of_damage unit damage.offset damage.kind ∷ []) ≡ story.text first visits
  pub reasons : (first : S) (visits : List Visit) (offset : ℕ) (kind : FaultKind)
      → story.refuses first visits (fault.Damage offset kind) → ⊥

-- the damage, where that is the fault
abbrev pub damage_in : RunFault → Option Damage
damage_in (fault.Damage offset kind) = Some (record { offset = offset; kind = kind })
damage_in other = None

-- the bytes that are passed over, up to the current unit
abbrev pub passed : UnitsAround → List ℕ → ℕ
passed a bytes = min (a.units.offset - a.read) (length bytes)

-- how its units stand after these blocks
abbrev pub Awaits : Dialect → SectionUnits → List Block → Rest → Type 0
Awaits dialect u blocks (begun b) =
    (past : Before dialect) → past.bytes ≡ bytes_of blocks → past.units ≡ units_around blocks → UnitsAre past u b [] b
Awaits dialect u blocks (broken front back at kind) =
    (n : ℕ) × (unit_len dialect front ≡ Some n) × (u.offset ≡ length (bytes_of blocks) + n)
    × ((past : Before dialect) → length past.bytes ≡ length (bytes_of blocks) + n → past.units ≡ units_around blocks
    → UnitsAre past u [] [] [])
Awaits dialect u blocks other = ⊥

-- what is counted
abbrev pub surveyed : UnitsAround → Survey
surveyed a = record { summary = a.units.summary; damaged = a.damaged }

-- its initial length isn't good
abbrev pub HasNoLength : Dialect → Rest → Type 0
HasNoLength dialect (broken front back at kind) = unit_len dialect front ≡ None
HasNoLength dialect other = ⊥

-- memory is refused for a cell of the front of a unit, which the next byte adds
abbrev pub WantsCell : Dialect → Rest → (others : List ℕ) → RunFault → Type 0
WantsCell dialect (begun b) others fault.NoMemory = RefusesCell dialect b others
WantsCell dialect rest others other = ⊥

-- t was read, which is blocks and a rest, and the visitor was told of it
pub record AroundIs {S : Type 0} (story : Story S) (dialect : Dialect) (t : List ℕ) (first new : S)
    (start now : Option (List ℕ)) (a : UnitsAround) : Type 0 where
  pub blocks : List Block
  pub rest : Rest
  pub cut : IsCut dialect t blocks rest
  pub awaits : Awaits dialect a.units blocks rest
  pub read : a.read ≡ length t
  pub damaged : a.damaged ≡ damaged_units (faults_of blocks rest)
  pub settled : Settled story first start now (visits_around dialect blocks rest) (story.tells first new start now)

-- `feed`, s being what was read before and the piece
abbrev pub AroundFed : {S : Type 0} → Story S → Dialect → (s : List ℕ) (first new : S) (start now : Option (List ℕ))
    → UnitsAround → Result Flow RunFault → Type 0
AroundFed story dialect s first new start now a (Ok flow.On) = AroundIs story dialect s first new start now a
-- no unit is known to follow, or the visitor wants none
AroundFed story dialect s first new start now a (Ok flow.Stop) =
    (blocks : List Block) × (rest : Rest)
    × (surveyed a ≡ survey_of dialect blocks rest)
    × ((IsCut dialect s blocks rest × HasNoLength dialect rest
    × Settled story first start now (visits_around dialect blocks rest) (story.tells first new start now))
    ⊎ ((others : List ℕ) × (rest ≡ begun []) × IsCutTo dialect s blocks rest others
    × Settled story first start now (visits_around dialect blocks rest) (story.is_done first new start now)))
AroundFed story dialect s first new start now a (Err (fault.Write out)) =
    (blocks : List Block) × (rest : Rest) × (others : List ℕ) × IsCutTo dialect s blocks rest others
    × WritesFront story first start now (visits_around dialect blocks rest) (fault.Write out)
AroundFed story dialect s first new start now a (Err f) =
    (blocks : List Block) × (rest : Rest) × (others : List ℕ) × IsCutTo dialect s blocks rest others
    × IsSoundSoFar dialect rest
    × ((WantsCell dialect rest others f
    × Settled story first start now (visits_around dialect blocks rest) (story.tells first new start now))
    ⊎ VisitorStops story first new start now (visits_around dialect blocks rest) f)

-- nothing was read
pub record BeginsAround (dialect : Dialect) (a : UnitsAround) : Type 0 where
  pub units : (past : Before dialect) → past.bytes ≡ [] → past.units ≡ [] → UnitsAre past a.units [] [] []
  pub read : a.read ≡ 0
  pub damaged : a.damaged ≡ None
