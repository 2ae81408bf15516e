-- What spans answer that have runs. No promise rests on how this is said.
use Rattle.std.specs.Prelude.{◌≡◌, ℕ, ◌+◌, ◌<◌, ◌≤◌, ◌^◌, true, false, List, length, take, drop, Option, is_none}
use Rattle.std.specs.List.{find, All}
use Rattle.std.specs.Option.{option_and_then}
use Rattle.dl_look.specs.declared.probed.Span.{Span}
use Rattle.dl_look.specs.Cuts.{covers_span}
use Rattle.dl_stretch.specs.declared.told.Told.{Told}
use Rattle.dl_stretch.specs.declared.run.Run.{Run}
use Rattle.dl_stretch.specs.Runs.{place_at, run_told_at}
use Rattle.dl_stretch.specs.RowRuns.{StartsRise}

-- the runs of a span
abbrev pub runs_in : List Run → Span → List Run
runs_in runs s = take s.len (drop s.start runs)

-- of the first span that covers a, what its last run tells that doesn't begin above a
abbrev pub answer_of : List Run → List Span → ℕ → Option Told
answer_of runs spans a =
    option_and_then (λ (s : Span). run_told_at (runs_in runs s) a) (find (covers_span (place_at a)) spans)

-- it tells something of each address that it covers
abbrev pub IsFull : List Run → Span → Type 0
IsFull runs s = (a : ℕ) → a < 2 ^ 64 → covers_span (place_at a) s ≡ true
    → is_none (run_told_at (runs_in runs s) a) ≡ false

-- the runs of each span are there, and rise
pub record AreSound (runs : List Run) (spans : List Span) : Type 0 where
  pub within : All (λ (s : Span). s.start + s.len ≤ length runs) spans
  pub rise : All (λ (s : Span). StartsRise (runs_in runs s)) spans
  pub full : All (IsFull runs) spans
