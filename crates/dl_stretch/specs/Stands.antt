-- For which rows the runs stand. No promise rests on how this is said.
use Rattle.std.specs.Prelude.{◌≡◌, ℕ, ◌<◌, ◌^◌, Bool, List, take, drop, Option}
use Rattle.std.specs.Option.{option_map}
use Rattle.dl_rows.specs.declared.row.Row.{Row}
use Rattle.dl_look.specs.Answer.{answer}
use Rattle.dl_look.specs.FinderRows.{unended}
use Rattle.dl_look.specs.LiveRows.{live_rows, Tells}
use Rattle.dl_stretch.specs.declared.told.Told.{Told}
use Rattle.dl_stretch.specs.declared.runs.Runs.{Runs}
use Rattle.dl_stretch.specs.declared.run_spans.RunSpans.{RunSpans}
use Rattle.dl_stretch.specs.Held.{held}
use Rattle.dl_stretch.specs.Runs.{place_at, told_of}
use Rattle.dl_stretch.specs.Sequences.{Keeps}
use Rattle.dl_stretch.specs.Parts.{ended, current}
use Rattle.dl_stretch.specs.Spans.{answer_of}
use Rattle.dl_stretch.specs.ToldUnits.{UnitRows, told_of_units}

-- what the units answer that have ended
abbrev pub whole_answer : RunSpans → ℕ → Option Told
whole_answer s a = answer_of (ended s.list) (take s.whole_spans s.spans.items) a

-- what the ended sequences of the current unit answer
abbrev pub unit_answer : RunSpans → ℕ → Option Told
unit_answer s a = answer_of (ended s.list) (drop s.whole_spans s.spans.items) a

-- the rows of the current unit
pub record Holds (s : RunSpans) (rows : List Row) : Type 0 where
  pub right : (a : ℕ) → a < 2 ^ 64 → unit_answer s a ≡ option_map (told_of held) (answer rows (place_at a))
  pub kept : Keeps s.list.state (current s.list) (unended rows)

-- the runs were given these units, which ended, and rows of the current unit
pub record Stands (live : ℕ → Bool) (runs : Runs) (units : List UnitRows) (rows : List Row) : Type 0 where
  pub whole : (a : ℕ) → a < 2 ^ 64 → whole_answer runs.spans a ≡ told_of_units live units a
  pub unit : Holds runs.spans (live_rows live rows)
  pub told : Tells runs.live live rows
