-- How the reader of a section stands. No promise rests on this file.
use Rattle.std.specs.Prelude.{⊤, ◌≡◌, ◌≢◌, ◌⊎◌, ◌≤◌, ℕ, ◌+◌, Bool, true, false, List, [], ◌∷◌, ◌++◌, length, Option, None, Some}
use Rattle.std.specs.Prelude.{Result, Ok, Err, count_by}
use Rattle.std.specs.List.{AllByRecursion, concat}
use Rattle.dl_head.specs.declared.dialect.Dialect.{Dialect}
use Rattle.dl_rows.specs.declared.row.Row.{Row}
use Rattle.dl_rows.specs.declared.reader.Event.{Event}
use Rattle.dl_rows.specs.declared.reader.Event.TheVariants as event
use Rattle.dl_rows.specs.LineUnit.{IsUnit, events}
use Rattle.dl_rows.specs.ReaderStands.{StandsFor}
use Rattle.dl_rows.specs.Reading.{row_told}
use Rattle.dl_rows.specs.Refusal.{Refused}
use Rattle.dl_rows.specs.Runs.{Sound}
use Rattle.dl_sections.specs.declared.around.Damage.{Damage}
use Rattle.dl_sections.specs.declared.fault.RunFault.{RunFault}
use Rattle.dl_sections.specs.declared.fault.RunFault.TheVariants as fault
use Rattle.dl_rows.specs.declared.sink.Flow.{Flow}
use Rattle.dl_rows.specs.declared.sink.Flow.TheVariants as flow
use Rattle.dl_sections.specs.declared.section.SectionUnits.{SectionUnits}
use Rattle.dl_print.specs.declared.summary.Summary.{Summary}
use Rattle.dl_table.specs.declared.fault.FaultKind.TheVariants.{Truncated}
use Rattle.dl_sections.specs.Section.{Visit, HasUnits, HasBegun, NoUnitBegins, RefusesCell, summary_of, units_visits, visits}
use Rattle.dl_sections.specs.Visiting.{Story, Stopped, WritesFront, VisitorStops, Settled, header_told}

abbrev pub rows_told : List Event → List Row
rows_told [] = []
rows_told (e ∷ es) = row_told e ++ rows_told es

abbrev pub is_foreign : List Event → Bool
is_foreign [] = false
is_foreign (event.Foreign version ∷ es) = true
is_foreign (e ∷ es) = is_foreign es

-- what was read of the section before: its bytes, the whole units among them, and what was told
pub record Before (dialect : Dialect) : Type 0 where
  pub bytes : List ℕ
  pub units : List (List ℕ)
  pub visits : List Visit
  pub each : AllByRecursion (IsUnit dialect) units
  pub fits : length (concat units) ≤ length bytes
  pub closed : header_told None visits ≡ None

-- where the bytes after these units begin
abbrev pub end_of : {dialect : Dialect} → Before dialect → List (List ℕ) → ℕ
end_of past units = length (past.bytes ++ concat units)

-- what is told of units, and of the front of one more
abbrev pub visits_since : {dialect : Dialect} → Before dialect → List (List ℕ) → List ℕ → List Visit
visits_since {dialect} past units b =
    past.visits ++ (units_visits dialect (length past.bytes) units ++ visits dialect (end_of past units) b)

-- since then t was read, which is units, and b of one more
pub record UnitsAre {dialect : Dialect} (past : Before dialect) (u : SectionUnits) (t : List ℕ) (units : List (List ℕ))
    (b : List ℕ) : Type 0 where
  pub has : HasUnits dialect t units b
  pub dialect_is : u.dialect ≡ dialect
  pub reader_dialect : u.reader.dialect ≡ dialect
  pub stands : StandsFor u.reader b
  pub offset : u.offset ≡ end_of past units
  pub foreign : u.is_foreign ≡ is_foreign (events dialect b)
  pub sequences : u.sequences ≡ count_by (λ r. r.end_sequence) (rows_told (events dialect b))
  pub rows : u.rows ≡ length (rows_told (events dialect b))
  pub summary : u.summary ≡ summary_of dialect (past.units ++ units)

-- the reader has taken b of the unit after these
pub record StopsWith {dialect : Dialect} (past : Before dialect) (u : SectionUnits) (units : List (List ℕ))
    (b : List ℕ) : Type 0 where
  pub dialect_is : u.dialect ≡ dialect
  pub reader_dialect : u.reader.dialect ≡ dialect
  pub stands : StandsFor u.reader b
  pub offset : u.offset ≡ end_of past units
  pub summary : u.summary ≡ summary_of dialect (past.units ++ units)

-- what an event that is no row says of the current unit
abbrev pub counted : Event → SectionUnits → SectionUnits
counted (event.Foreign version) u = record u { is_foreign = true }
counted other u = u

-- a unit is at an end, or b is refused, or memory was
abbrev pub ReaderStops : {dialect : Dialect} → Before dialect → SectionUnits → List (List ℕ) → (b back : List ℕ)
    → RunFault → Type 0
ReaderStops {dialect} past u units b back (fault.Damage offset kind) =
    (at : ℕ) × (offset ≡ end_of past units + at) × Refused dialect b at kind × NoUnitBegins dialect (b ++ back)
    × StopsWith past u units b
ReaderStops {dialect} past u units b back fault.NoMemory = Sound dialect b × RefusesCell dialect b back
ReaderStops {dialect} past u units b back other = ⊥

-- nothing that was read is refused, unless a write failed
abbrev pub SoundUnlessWrite : Dialect → List ℕ → RunFault → Type 0
SoundUnlessWrite dialect b (fault.Write out) = ⊤
SoundUnlessWrite dialect b other = Sound dialect b

-- `feed`: s is what was read before and the piece
abbrev pub UnitsFed : {S : Type 0} {dialect : Dialect} → Story S → Before dialect → (s : List ℕ) (first new : S)
    (start now : Option (List ℕ))
    → SectionUnits → Result Flow RunFault → Type 0
UnitsFed {dialect = dialect} story past s first new start now u (Ok flow.On) =
    (units : List (List ℕ)) × (b : List ℕ) × UnitsAre past u s units b × NoUnitBegins dialect b × Sound dialect b
    × story.tells first new start now (visits_since past units b)
UnitsFed {dialect = dialect} story past s first new start now u (Ok flow.Stop) =
    (units : List (List ℕ)) × (back : List ℕ) × HasUnits dialect s units back × (u.summary ≡ summary_of dialect (past.units ++ units))
    × (u.offset ≡ end_of past units) × story.is_done first new start now (visits_since past units [])
UnitsFed {dialect = dialect} story past s first new start now u (Err f) =
    (units : List (List ℕ)) × (b : List ℕ) × (back : List ℕ) × HasBegun dialect s units b back
    × ((ReaderStops past u units b back f × story.tells first new start now (visits_since past units b))
    ⊎ (SoundUnlessWrite dialect b f × (heard : List Visit) × (more : List Visit)
    × (visits_since past units b ≡ heard ++ more) × Stopped story first new start now heard f))

abbrev pub is_failed_write : {A : Type 0} → Result A RunFault → Bool
is_failed_write (Err (fault.Write out)) = true
is_failed_write other = false

-- `work_through`: what `feed` answers, and what is printed is out
abbrev pub Worked : {S : Type 0} {dialect : Dialect} → Story S → Before dialect → (s : List ℕ) (first new : S)
    (start now : Option (List ℕ))
    → SectionUnits → Result Flow RunFault → Type 0
Worked {dialect = dialect} story past s first new start now u (Ok flow.On) =
    (units : List (List ℕ)) × (b : List ℕ) × UnitsAre past u s units b × NoUnitBegins dialect b × Sound dialect b
    × Settled story first start now (visits_since past units b) (story.tells first new start now)
Worked {dialect = dialect} story past s first new start now u (Ok flow.Stop) =
    (units : List (List ℕ)) × (back : List ℕ) × HasUnits dialect s units back × (u.summary ≡ summary_of dialect (past.units ++ units))
    × (u.offset ≡ end_of past units) × Settled story first start now (visits_since past units []) (story.is_done first new start now)
Worked {dialect = dialect} story past s first new start now u (Err (fault.Write out)) =
    (units : List (List ℕ)) × (b : List ℕ) × (back : List ℕ) × HasBegun dialect s units b back
    × WritesFront story first start now (visits_since past units b) (fault.Write out)
Worked {dialect = dialect} story past s first new start now u (Err f) =
    (units : List (List ℕ)) × (b : List ℕ) × (back : List ℕ) × HasBegun dialect s units b back
    × ((ReaderStops past u units b back f
    × Settled story first start now (visits_since past units b) (story.tells first new start now))
    ⊎ (Sound dialect b × VisitorStops story first new start now (visits_since past units b) f))

-- `finish`: t is units, or it ends in the midst of one
abbrev pub Finishes : {dialect : Dialect} → Before dialect → (t : List ℕ) (units : List (List ℕ)) (b : List ℕ)
    → Result Summary RunFault → Type 0
Finishes {dialect} past t units b (Ok summary) = (b ≡ []) × (summary ≡ summary_of dialect (past.units ++ units))
Finishes past t units b (Err f) = (b ≢ []) × (f ≡ fault.Damage (length (past.bytes ++ t)) Truncated)

-- `cut_off`: t is units, or it ends in the midst of one
abbrev pub CutsOff : {dialect : Dialect} → Before dialect → (t b : List ℕ) → Option Damage → Type 0
CutsOff past t b None = b ≡ []
CutsOff past t b (Some damage) = (b ≢ []) × (damage ≡ record { offset = length (past.bytes ++ t); kind = Truncated })
