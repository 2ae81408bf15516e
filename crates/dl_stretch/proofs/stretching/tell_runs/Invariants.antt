use Rattle.std.proofs.Common.{◌≡◌, ℕ, ◌+◌, ◌-◌, ◌<◌, ◌≤◌, length, List, Option}
use Rattle.dl_stretch.specs.declared.told.Told.{Told}
use Rattle.dl_stretch.specs.declared.stretch.Stretch.{Stretch}
use Rattle.dl_stretch.specs.Made.{AreMade, TellsOn, last_told, start_at, next_start}
use Rattle.dl_stretch.specs.Runs.{run_told_at}
use Rattle.dl_stretch.proofs.stretching.tell_runs.Given as goal

abbrev pub invariant-loop-next : goal.invariant-loop-next
invariant-loop-next g l =
    record {
      within : l.next ≤ length l.runs;
      above : (k : ℕ) → l.next ≤ k → k < length l.runs → l.reach.first < start_at l.runs k;
      made : (f : ℕ → Option Told) (list : List Stretch) → l.fn.last ≡ last_told list → AreMade f list l.reach.first
          → ((a : ℕ) → l.reach.first ≤ a → a ≤ l.reach.last → f a ≡ run_told_at l.runs a)
          → TellsOn g.S.StretchSink.hears l.fn.sink l.sink f list (next_start l.runs (l.reach.last + 1) l.next) l.told;
    }

abbrev pub decreases-loop-next : goal.decreases-loop-next
decreases-loop-next g l = length l.runs - l.next
