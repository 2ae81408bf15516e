-- Runs and spans of whole units, of the current one, and of a sequence. No promise rests on how this is said.
use Rattle.std.specs.Prelude.{ℕ, ◌+◌, ◌≤◌, List, length, take, drop}
use Rattle.std.specs.List.{All}
use Rattle.dl_look.specs.declared.probed.Span.{Span}
use Rattle.dl_stretch.specs.declared.run.Run.{Run}
use Rattle.dl_stretch.specs.declared.sequence.SequenceRuns.{SequenceRuns}
use Rattle.dl_stretch.specs.Spans.{AreSound}

-- the runs of the sequences that have ended
abbrev pub ended : SequenceRuns → List Run
ended s = take s.begun s.runs.items

-- those of the current sequence
abbrev pub current : SequenceRuns → List Run
current s = drop s.begun s.runs.items

-- so many runs and spans are of units that have ended, and the others of the current unit
pub record AreParted (runs : List Run) (spans : List Span) (run_count span_count : ℕ) : Type 0 where
  pub sound : AreSound runs spans
  pub runs_few : run_count ≤ length runs
  pub spans_few : span_count ≤ length spans
  pub before : All (λ (s : Span). s.start + s.len ≤ run_count) (take span_count spans)
  pub after : All (λ (s : Span). run_count ≤ s.start) (drop span_count spans)
