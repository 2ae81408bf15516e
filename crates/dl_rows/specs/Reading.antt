-- What a reader of a unit answers. Places count from the unit's first byte. DWARF 5, section 6.2.4.
use Rattle.std.specs.Prelude.{◌≡◌, ◌≢◌, ◌<◌, ◌≤◌, ◌⊎◌, ◌-◌, ℕ, List, [], ◌∷◌, ◌++◌, length, take, Some, None, slice_get}
use Rattle.std.specs.Prelude.{Result, Ok, Err, Bool, true, false}
use Rattle.dl_head.specs.declared.dialect.Dialect.{Dialect}
use Rattle.dl_head.specs.declared.fault.Fault.{Fault}
use Rattle.dl_table.specs.declared.fault.FaultKind.{FaultKind}
use Rattle.dl_table.specs.declared.fault.FaultKind.TheVariants.{Truncated}
use Rattle.dl_head.specs.Header.{header_in, unit_len}
use Rattle.dl_head.specs.Reading.{RefusesCell}
use Rattle.dl_rows.specs.declared.reader.Event.{Event}
use Rattle.dl_rows.specs.declared.reader.Event.TheVariants as event
use Rattle.dl_rows.specs.declared.reader.Fed.{Fed}
use Rattle.dl_rows.specs.declared.reader.Finish.{Finish}
use Rattle.dl_rows.specs.declared.reader.Finish.TheVariants as finish
use Rattle.dl_rows.specs.declared.row.Row.{Row}
use Rattle.dl_rows.specs.Items.{Item, rows_of_items, unit_items}
use Rattle.dl_rows.specs.LineUnit.{IsUnit, events}
use Rattle.dl_rows.specs.Sinks.{Story}
use Rattle.dl_rows.specs.Refusal.{Refused}

-- where the length of its unit is known, b is no longer
abbrev pub WithinUnit : Dialect → List ℕ → Type 0
WithinUnit dialect b = (n : ℕ) → unit_len dialect b ≡ Some n → length b ≤ n

-- an answer that may use no byte
abbrev pub IsPause : Event → Type 0
IsPause event.More = Unit {0}
IsPause event.End = Unit {0}
IsPause event.NoMemory = Unit {0}
IsPause other = ⊥

-- the events that an answer tells
abbrev pub told : Event → List Event
told event.More = []
told event.End = []
told event.NoMemory = []
told other = other ∷ []

-- What is said of an answer, b being the bytes taken before the call, used bytes of the piece taken in it, and before
-- the
-- events up to this answer.
abbrev pub EventHoldsAfter : Dialect → (before : List Event) → List ℕ → List ℕ → ℕ → Event → Type 0
-- the whole piece is used; where it ends a unit, it isn't empty
EventHoldsAfter dialect before b piece used event.More =
    (used ≡ length piece) × (IsUnit dialect (b ++ take used piece) → 1 ≤ used)
-- a unit is whole
EventHoldsAfter dialect before b piece used event.End =
    IsUnit dialect (b ++ take used piece) × ((used ≡ 0) ⊎ (used < length piece))
-- for the next byte of a header the system refused memory
EventHoldsAfter dialect before b piece used event.NoMemory =
    (byte : ℕ) × (slice_get piece used ≡ Some byte) × (header_in dialect (b ++ take used piece) ≡ None)
    × RefusesCell dialect (b ++ take used piece) byte
-- what is told comes with the last byte used
EventHoldsAfter dialect before b piece used other = (1 ≤ used) × (events dialect (b ++ take (used - 1) piece) ≡ before)

-- the same, where nothing was told in the call before
abbrev pub EventHolds : Dialect → List ℕ → List ℕ → ℕ → Event → Type 0
EventHolds dialect b piece used e = EventHoldsAfter dialect (events dialect b) b piece used e

-- what a piece may be answered after b and the events before, where that is an event
pub record AnsweredAfter (dialect : Dialect) (before : List Event) (b piece : List ℕ) (fed : Fed) : Type 0 where
  pub within : fed.used ≤ length piece
  pub in_unit : WithinUnit dialect (b ++ take fed.used piece)
  -- the events grow by what is told, and by nothing else
  pub grows : events dialect (b ++ take fed.used piece) ≡ before ++ told fed.event
  pub holds : EventHoldsAfter dialect before b piece fed.used fed.event
  -- nothing that was taken is refused
  pub sound : (front back : List ℕ) (at : ℕ) (kind : FaultKind) → b ++ take fed.used piece ≡ front ++ back
      → Refused dialect front at kind → ⊥

-- the same, where nothing was told in the call before
abbrev pub Answered : Dialect → (b piece : List ℕ) → Fed → Type 0
Answered dialect b piece fed = AnsweredAfter dialect (events dialect b) b piece fed

-- an answer of an event after those before, the reader then being new
pub record FeedsAfter {S : Type 0} (StandsFor : S → List ℕ → Type 0) (dialect : Dialect) (before : List Event)
    (b piece : List ℕ) (fed : Fed) (new : S) : Type 0 where
  pub answered : AnsweredAfter dialect before b piece fed
  pub stands : StandsFor new (b ++ take fed.used piece)

-- an answer of an event
abbrev pub Feeds : {S : Type 0} → (S → List ℕ → Type 0) → Dialect → (b piece : List ℕ) → Fed → S → Type 0
Feeds StandsFor dialect b piece fed new = FeedsAfter StandsFor dialect (events dialect b) b piece fed new

-- an answer of a fault after the events before: the bytes up to the one that decides it are refused
pub record FailsAfter (dialect : Dialect) (before : List Event) (b piece : List ℕ) (fault : Fault)
    (used : ℕ) : Type 0 where
  pub within : used ≤ length piece
  pub in_unit : WithinUnit dialect (b ++ take used piece)
  pub refused : Refused dialect (b ++ take used piece) fault.offset fault.kind
  pub no_event : events dialect (b ++ take used piece) ≡ before

-- an answer of a fault
abbrev pub Fails : Dialect → (b piece : List ℕ) → Fault → ℕ → Type 0
Fails dialect b piece fault used = FailsAfter dialect (events dialect b) b piece fault used

-- the rows that an event is
abbrev pub row_told : Event → List Row
row_told (event.Row r) = r ∷ []
row_told other = []

abbrev pub row_answered : Result Fed Fault → List Row
row_answered (Ok fed) = row_told fed.event
row_answered (Err fault) = []

-- whether an event comes before the program
abbrev pub is_opening : Event → Bool
is_opening event.Header = true
is_opening (event.Foreign version) = true
is_opening other = false

abbrev pub opening_answered : Result Fed Fault → Bool
opening_answered (Ok fed) = is_opening fed.event
opening_answered (Err fault) = false

-- the sink stopped at the last of these items, the row of this event, or goes on
abbrev pub SinkAt : {S : Type 0} → Story S → S → List Item → Event → Type 0
SinkAt story s items (event.Row r) = story.stops s items
SinkAt story s items other = story.hears s items

-- a sink that heard these items up to this answer: it stopped at the answer's row, or goes on
abbrev pub SinkAfter : {S : Type 0} → Story S → S → List Item → Result Fed Fault → Type 0
SinkAfter story s items (Ok fed) = SinkAt story s items fed.event
SinkAfter story s items (Err fault) = story.hears s items

-- after b the first `used` bytes of a piece were taken, which gave these rows and then the answer; a sink that had heard
-- the items before has heard what these bytes come to
pub record HearsOf {S : Type 0} (story : Story S) (dialect : Dialect) (b piece : List ℕ) (used : ℕ) (rows : List Row)
    (before : List Item) (result : Result Fed Fault) (s : S) : Type 0 where
  pub items : List Item
  pub grown : unit_items dialect (b ++ take used piece) ≡ unit_items dialect b ++ items
  pub of_rows : rows_of_items items ≡ rows ++ row_answered result
  pub opening : opening_answered result ≡ true → unit_items dialect (b ++ take used piece) ≡ []
  pub sink : SinkAfter story s (before ++ items) result

-- `finish`: no byte was taken; a unit was; b is refused; or it is none of these
abbrev pub FinishIs : Dialect → List ℕ → Result Finish Fault → Type 0
FinishIs dialect b (Ok finish.Empty) = b ≡ []
FinishIs dialect b (Ok finish.Whole) = IsUnit dialect b
FinishIs dialect b (Err f) =
    Refused dialect b f.offset f.kind
    ⊎ ((f ≡ record { offset = length b; kind = Truncated }) × (b ≢ []) × (IsUnit dialect b → ⊥)
    × ((at : ℕ) (kind : FaultKind) → Refused dialect b at kind → ⊥))
