-- What the calls of a reader of a unit answer. DWARF 5, section 6.2.
use Rattle.std.specs.Prelude.{◌≡◌, ℕ, List, ◌++◌, map, take, Option, Some, None, Result, Ok, Err}
use Rattle.dl_head.specs.declared.dialect.Dialect.{Dialect}
use Rattle.dl_head.specs.declared.fault.Fault.{Fault}
use Rattle.dl_field.specs.HeaderData.{HeaderData}
use Rattle.dl_head.specs.declared.header.HeaderLengths.{HeaderLengths}
use Rattle.dl_head.specs.Header.{header_in, lengths_in}
use Rattle.dl_rows.specs.declared.reader.Fed.{Fed}
use Rattle.dl_rows.specs.declared.reader.Reader.{Reader}
use Rattle.dl_rows.specs.declared.row.Row.{Row}
use Rattle.dl_rows.specs.Items.{Item}
use Rattle.dl_rows.specs.declared.reader.Event.{Event}
use Rattle.dl_rows.specs.declared.reader.Event.TheVariants as event
use Rattle.dl_rows.specs.LineUnit.{events}
use Rattle.dl_rows.specs.Reading.{Feeds, FeedsAfter, Fails, FailsAfter, HearsOf}
use Rattle.dl_rows.specs.Sinks.{Story}
use Rattle.dl_rows.specs.ReaderStands.{StandsFor}

-- `feed`: an event, or the fault of the bytes that it took (none, where the fault stood before)
abbrev pub ReaderFed : Dialect → List ℕ → List ℕ → Result Fed Fault → Reader → Type 0
ReaderFed dialect b piece (Ok fed) new = Feeds StandsFor dialect b piece fed new
ReaderFed dialect b piece (Err fault) new =
    (used : ℕ) × Fails dialect b piece fault used × StandsFor new (b ++ take used piece)

-- an answer after the events before, `used` bytes being taken
abbrev pub FedAfter : Dialect → (before : List Event) → (b piece : List ℕ) → (used : ℕ) → Result Fed Fault → Reader
    → Type 0
FedAfter dialect before b piece used (Ok fed) new =
    (fed.used ≡ used) × FeedsAfter StandsFor dialect before b piece fed new
FedAfter dialect before b piece used (Err fault) new =
    FailsAfter dialect before b piece fault used × StandsFor new (b ++ take used piece)

-- `feed_program`: the sink, which had heard the items before, heard what the bytes that were taken come to
pub record SinkFed {S : Type 0} (story : Story S) (dialect : Dialect) (b piece : List ℕ) (before : List Item)
    (result : Result Fed Fault) (new : Reader) (s : S) : Type 0 where
  pub rows : List Row
  pub used : ℕ
  pub fed : FedAfter dialect (events dialect b ++ map event.Row rows) b piece used result new
  pub heard : HearsOf story dialect b piece used rows before result s

-- `header` and `into_header`: the header that b begins with
abbrev pub HeaderIs : Reader → Option HeaderData → Type 0
HeaderIs r (Some h) = (b : List ℕ) → StandsFor r b → (program : List ℕ) × (header_in r.dialect b ≡ Some (h, program))
HeaderIs r None = (b : List ℕ) → StandsFor r b → header_in r.dialect b ≡ None

-- `lengths`: how long the unit and the header that b begins with are
abbrev pub LengthsAre : Reader → Option HeaderLengths → Type 0
LengthsAre r (Some lengths) = (b : List ℕ) → StandsFor r b → (h : HeaderData) × (program : List ℕ)
    × (header_in r.dialect b ≡ Some (h, program)) × (lengths ≡ lengths_in r.dialect b h)
LengthsAre r None = (b : List ℕ) → StandsFor r b → header_in r.dialect b ≡ None
