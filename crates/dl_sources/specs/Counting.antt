-- What is kept of the rows of a unit, while they are counted. No promise rests on this file.
use Rattle.std.specs.Prelude.{◌≡◌, ◌<◌, ℕ, ◌-◌, ◌==◌, Bool, if◌then◌else◌, List, [], ◌∷◌, length, get_or, Option, Some, None}
use Rattle.dl_rows.specs.declared.row.Row.{Row}
use Rattle.dl_look.specs.LiveRows.{live_rows, Tells}
use Rattle.dl_sources.specs.declared.counting.Begun.{Begun}
use Rattle.dl_sources.specs.declared.counting.Counts.{Counts}
use Rattle.dl_sources.specs.declared.counting.UnitCounts.{UnitCounts}
use Rattle.dl_sources.specs.Counts.{counts_of, names, none_named, plus}

-- the row, where its sequence goes on after it
abbrev pub begun_by : Row → Option Begun
begun_by r = if r.end_sequence then None else Some (record { file = r.file; address = r.address })

-- the last row, where its sequence goes on
abbrev pub last_begun : List Row → Option Begun
last_begun [] = None
last_begun (r ∷ []) = begun_by r
last_begun (r ∷ s ∷ rows) = last_begun (s ∷ rows)

-- the counts of the file of number n, with what a row at this address adds for the row before it
abbrev pub with_gap : (n : ℕ) → Option Begun → (address : ℕ) → Counts → Counts
with_gap n None address counts = counts
with_gap n (Some b) address counts =
    if n == b.file then plus counts (record { rows = 0; bytes = address - b.address }) else counts

-- with what a row adds for itself
abbrev pub with_row : (n : ℕ) → Row → Counts → Counts
with_row n r counts = if names n r then plus counts (record { rows = 1; bytes = 0 }) else counts

-- it was given these rows of a unit whose files have the numbers below `count`
pub record Counting (live : ℕ → Bool) (count : ℕ) (u : UnitCounts) (rows : List Row) : Type 0 where
  pub live_told : Tells u.live live rows
  pub few : length u.files.items ≡ count
  pub each : (n : ℕ) → n < count → get_or u.files.items n none_named ≡ counts_of n (live_rows live rows)
  pub last_is : u.last ≡ last_begun (live_rows live rows)
