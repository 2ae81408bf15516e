-- Rows that are told inside one call of `feed_program`, and the calls of `feed` that tell the same, one after the other.
use Rattle.std.specs.Prelude.{◌≡◌, ◌⊎◌, ◌+◌, ◌<◌, ◌↔◌, ℕ, List, [], ◌∷◌, ◌++◌, length, map, take, drop, Result, Ok, Err}
use Rattle.dl_head.specs.declared.dialect.Dialect.{Dialect}
use Rattle.dl_head.specs.declared.fault.Fault.{Fault}
use Rattle.dl_rows.specs.declared.reader.Event.{Event}
use Rattle.dl_rows.specs.declared.reader.Event.TheVariants as event
use Rattle.dl_rows.specs.declared.row.Row.{Row}
use Rattle.dl_rows.specs.LineUnit.{events}
use Rattle.dl_rows.specs.Reading.{AnsweredAfter, FailsAfter}
use Rattle.dl_rows.specs.Runs.{MayGive}

abbrev pub MayGiveAfter : Dialect → (before : List Event) → (b piece : List ℕ) → ℕ → Result Event Fault → Type 0
MayGiveAfter dialect before b piece used (Ok event) =
    AnsweredAfter dialect before b piece (record { used = used; event = event })
MayGiveAfter dialect before b piece used (Err fault) = FailsAfter dialect before b piece fault used

-- what `feed_program` may answer after b to a piece, having told these rows on the way
abbrev pub MayTell : Dialect → (b piece : List ℕ) → List Row → ℕ → Result Event Fault → Type 0
MayTell dialect b piece rows used gave = MayGiveAfter dialect (events dialect b ++ map event.Row rows) b piece used gave

-- what calls of `feed` may answer, each being given what the one before it left of the piece: these rows, and then
-- gave, used bytes being used
-- in all. Where a row comes with the last byte of the piece, there is no call after it.
abbrev pub Calls : Dialect → (b piece : List ℕ) → List Row → ℕ → Result Event Fault → Type 0
Calls dialect b piece [] used gave = MayGive dialect b piece used gave
Calls dialect b piece (row ∷ rows) used gave = (n : ℕ) × MayGive dialect b piece n (Ok (event.Row row)) × (
    ((n ≡ length piece) × (rows ≡ []) × (used ≡ n) × (gave ≡ Ok event.More))
    ⊎ ((n < length piece) × (more : ℕ) × (used ≡ n + more)
    × Calls dialect (b ++ take n piece) (drop n piece) rows more gave))

-- `feed_program` may answer exactly what calls of `feed` may
abbrev pub RowsAreCalls : Type 0
RowsAreCalls = (dialect : Dialect) (b piece : List ℕ) (rows : List Row) (used : ℕ) (gave : Result Event Fault)
    → MayTell dialect b piece rows used gave ↔ Calls dialect b piece rows used gave
