-- How many items are kept of the rows of units.
use Rattle.std.specs.Prelude.{ℕ, ◌+◌, ◌-◌, length}
use Rattle.dl_stretch.specs.declared.runs.Runs.{Runs}
use Rattle.dl_stretch.specs.declared.run_spans.RunSpans.{RunSpans}

-- runs, and spans of sequences
abbrev pub kept_in : RunSpans → ℕ
kept_in s = length s.list.runs.items + length s.spans.items

abbrev pub kept_count : Runs → ℕ
kept_count runs = kept_in runs.spans

-- runs of the units that have ended
abbrev pub whole_in : RunSpans → ℕ
whole_in s = s.whole_runs

abbrev pub whole_count : Runs → ℕ
whole_count runs = whole_in runs.spans

-- runs of the sequences of the current unit that have ended
abbrev pub unit_in : RunSpans → ℕ
unit_in s = s.list.begun - s.whole_runs

abbrev pub unit_count : Runs → ℕ
unit_count runs = unit_in runs.spans
