-- What is said of a visitor where it is told of a section, and of one that was told of all that was read.
use Rattle.std.specs.Prelude.{⊤, ◌≡◌, ◌⊎◌, ℕ, take, List, [], ◌∷◌, ◌++◌, Option, Some, None, Result, Ok, Err}
use Rattle.std.specs.Prelude.{Bool, MatchResult, if◌then◌else◌}
use Rattle.std.specs.Io.KnownBytes.{Appends}
use Rattle.dl_head.specs.declared.dialect.Dialect.{Dialect}
use Rattle.dl_field.specs.HeaderData.{HeaderData}
use Rattle.dl_rows.specs.Runs.{Sound}
use Rattle.dl_sections.specs.declared.fault.RunFault.{RunFault}
use Rattle.dl_sections.specs.declared.fault.RunFault.TheVariants as fault
use Rattle.dl_rows.specs.declared.sink.Flow.{Flow}
use Rattle.dl_rows.specs.declared.sink.Flow.TheVariants as flow
use Rattle.dl_print.specs.declared.fault.WriteFault.{WriteFault}
use Rattle.dl_print.specs.declared.summary.Summary.{Summary}
use Rattle.dl_sections.specs.RunOutput.{TellsOut}
use Rattle.dl_sections.specs.Section.{Visit, of_damage, of_header, of_end, HasUnits, HasBegun, EndsAs, section_visits, summary_of}

-- What is said of a visitor. The first of two visitors is the one at the beginning, the first of two lists what the
-- writer held then.
pub record Story (S : Type 0) : Type 1 where
  -- what is printed of these visits
  pub text : S → List Visit → List ℕ
  -- it was told these visits, and goes on
  pub tells : S → S → Option (List ℕ) → Option (List ℕ) → List Visit → Type 0
  -- it was told these visits, and wants nothing more
  pub is_done : S → S → Option (List ℕ) → Option (List ℕ) → List Visit → Type 0
  -- it has a reason for this fault at the last of these visits
  pub refuses : S → List Visit → RunFault → Type 0

-- it had a reason at the last of these visits
abbrev pub HasReason : {S : Type 0} → Story S → (first new : S) (start now : Option (List ℕ)) (visits : List Visit)
    → RunFault → Type 0
HasReason story first new start now visits f =
    (before : List Visit) × (visit : Visit) × (visits ≡ before ++ visit ∷ []) × story.tells first new start now before
    × story.refuses first visits f

-- it stopped at the last of these visits: a write failed, or there was a reason
abbrev pub Stopped : {S : Type 0} → Story S → (first new : S) (start now : Option (List ℕ)) (visits : List Visit)
    → RunFault → Type 0
Stopped story first new start now visits (fault.Write out) =
    TellsOut start now (story.text first visits) (fault.Write out)
Stopped story first new start now visits other = HasReason story first new start now visits other

-- it stopped at one of these visits, after others
abbrev pub StopsIn : {S : Type 0} → Story S → (first new : S) (start now : Option (List ℕ)) (visits more : List Visit)
    → RunFault → Type 0
StopsIn story first new start now visits more f =
    (heard : List Visit) × (back : List Visit) × (more ≡ heard ++ back)
    × Stopped story first new start now (visits ++ heard) f

-- the fault of a failed write, as a command's
abbrev pub as_run : {A : Type 0} → Result A WriteFault → Result A RunFault
as_run (Ok a) = Ok a
as_run (Err f) = Err (fault.Write f.out)

-- it is told more visits, up to one at which it stops
abbrev pub Hears : {S A : Type 0} → Story S → (old new : S) (before after : Option (List ℕ)) (more : List Visit)
    → Result A RunFault → Type 0
Hears {S} story old new before after more result =
    (first : S) (start : Option (List ℕ)) (visits : List Visit) → story.tells first old start before visits
    → MatchResult result (λ _. story.tells first new start after (visits ++ more))
    (StopsIn story first new start after visits more)

-- it is told more visits, or none of them, and prints nothing
abbrev pub HearsRun : {S : Type 0} → Story S → (old new : S) (more : List Visit) → Bool → Type 0
HearsRun {S} story old new more told =
    (first : S) (start held : Option (List ℕ)) (visits : List Visit) → story.tells first old start held visits
    → story.tells first new start held (if told then visits ++ more else visits)

-- how it stands after a unit
abbrev pub GoesOn : {S : Type 0} → Story S → (first new : S) (start now : Option (List ℕ)) (visits : List Visit) → Flow
    → Type 0
GoesOn story first new start now visits flow.On = story.tells first new start now visits
GoesOn story first new start now visits flow.Stop = story.is_done first new start now visits

-- the header of the current unit, so far as visits tell it; header: that before the visits
abbrev pub header_told : Option HeaderData → List Visit → Option HeaderData
header_told header [] = header
header_told header (of_header offset l h ∷ visits) = header_told (Some h) visits
header_told header (of_end h ∷ visits) = header_told None visits
header_told header (of_damage unit offset kind ∷ visits) = header_told None visits
header_told header (visit ∷ visits) = header_told header visits

-- it is told the last visits of a unit, of which it was told the header, where it has one
abbrev pub HearsEnd : {S : Type 0} → Story S → (old new : S) (before after : Option (List ℕ))
    → (header : Option HeaderData) (more : List Visit) → Result Flow RunFault → Type 0
HearsEnd {S} story old new before after header more result =
    (first : S) (start : Option (List ℕ)) (visits : List Visit) → story.tells first old start before visits
    → header_told None visits ≡ header
    → MatchResult result (GoesOn story first new start after (visits ++ more))
    (StopsIn story first new start after visits more)

-- all that it printed goes out
abbrev pub Settles : {S : Type 0} → Story S → (old new : S) (before after : Option (List ℕ)) → Flow → Result ⊤ RunFault
    → Type 0
Settles {S} story old new before after flow result =
    (first : S) (start : Option (List ℕ)) (visits : List Visit) → GoesOn story first old start before visits flow
    → MatchResult result (λ _. GoesOn story first new start after visits flow
    × Appends start after (story.text first visits))
    (TellsOut start after (story.text first visits))

-- the writer holds what is printed of the visits up to some one
abbrev pub WritesFront : {S : Type 0} → Story S → (first : S) (start now : Option (List ℕ)) (visits : List Visit)
    → RunFault → Type 0
WritesFront story first start now visits f =
    (heard : List Visit) × (more : List Visit) × (visits ≡ heard ++ more)
    × TellsOut start now (story.text first heard) f

-- the visitor had a reason, and the writer holds what is printed of the visits before
pub record VisitorStops {S : Type 0} (story : Story S) (first new : S) (start now : Option (List ℕ))
    (visits : List Visit) (f : RunFault) : Type 0 where
  pub before : List Visit
  pub visit : Visit
  pub more : List Visit
  pub whole : visits ≡ before ++ visit ∷ more
  pub tells : story.tells first new start now before
  pub reason : story.refuses first (before ++ visit ∷ []) f
  pub out : Appends start now (story.text first before)

-- the writer holds all that is printed of the visits
pub record Settled {S : Type 0} (story : Story S) (first : S) (start now : Option (List ℕ)) (visits : List Visit)
    (Tells : List Visit → Type 0) : Type 0 where
  pub tells : Tells visits
  pub out : Appends start now (story.text first visits)

-- `read_units`: the units to the end, or up to one after which the visitor wants nothing more; or a write failed; or
-- the first fault, or the visitor had a reason
abbrev pub Ran : {S : Type 0} → Story S → Dialect
    → (limit : ℕ) (bytes : List ℕ) (left : Option (List ℕ)) (first new : S) (start now : Option (List ℕ))
    → Result Summary RunFault → Type 0
Ran story dialect limit bytes left first new start now (Ok summary) =
    ((units : List (List ℕ)) × EndsAs dialect limit bytes left units [] [] (Ok summary)
    × Settled story first start now (section_visits dialect units []) (story.tells first new start now))
    ⊎ ((units : List (List ℕ)) × (back : List ℕ) × HasUnits dialect (take limit bytes) units back
    × (summary ≡ summary_of dialect units)
    × Settled story first start now (section_visits dialect units []) (story.is_done first new start now))
Ran story dialect limit bytes left first new start now (Err (fault.Write out)) =
    (units : List (List ℕ)) × (b : List ℕ) × (back : List ℕ) × HasBegun dialect (take limit bytes) units b back
    × WritesFront story first start now (section_visits dialect units b) (fault.Write out)
Ran story dialect limit bytes left first new start now (Err f) =
    (units : List (List ℕ)) × (b : List ℕ) × (back : List ℕ)
    × ((EndsAs dialect limit bytes left units b back (Err f)
    × Settled story first start now (section_visits dialect units b) (story.tells first new start now))
    ⊎ (HasBegun dialect (take limit bytes) units b back × Sound dialect b
    × VisitorStops story first new start now (section_visits dialect units b) f))
