-- For what rows runs stand. No promise rests on how this is said.
use Rattle.std.specs.Prelude.{◌≡◌, ℕ, ◌<◌, ◌≤◌, ◌^◌, List, length, slice_index_or}
use Rattle.std.specs.List.{All}
use Rattle.std.specs.Option.{option_map}
use Rattle.dl_rows.specs.declared.row.Row.{Row}
use Rattle.dl_look.specs.Answer.{last_place, last_upto}
use Rattle.dl_stretch.specs.declared.run.Run.{Run}
use Rattle.dl_stretch.specs.Stretches.{Neighbours}
use Rattle.dl_stretch.specs.Held.{held}
use Rattle.dl_stretch.specs.Runs.{place_at, first_address, told_of, run_told_at}

-- each begins above the one before it
abbrev pub RunsRise : List Run → Type 0
RunsRise runs = Neighbours (λ (x : Run) (y : Run). x.start < y.start) runs

-- the same, by the numbers of the runs
abbrev pub StartsRise : List Run → Type 0
StartsRise runs = (j k : ℕ) (d : Run) → j < k → k < length runs
    → (slice_index_or runs j d).start < (slice_index_or runs k d).start

-- the last run not above an address tells what the last row does whose place isn't above it
pub record AreRunsOf (rows : List Row) (runs : List Run) : Type 0 where
  pub right : (a : ℕ) → a < 2 ^ 64 → run_told_at runs a ≡ option_map (told_of held) (last_upto (place_at a) rows)
  pub rise : RunsRise runs
  pub upto : All (λ (x : Run). x.start ≤ first_address (last_place rows)) runs
