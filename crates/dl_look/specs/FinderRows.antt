-- What a finder keeps of the rows that it was given.
use Rattle.std.specs.Prelude.{◌≡◌, Bool, true, false, ◌&&◌, if◌then◌else◌, List, [], ◌∷◌, ◌++◌, Option, Some, None}
use Rattle.dl_rows.specs.declared.row.Row.{Row}
use Rattle.dl_look.specs.declared.place.Place.{Place}
use Rattle.dl_look.specs.declared.finder.Finder.{Finder}
use Rattle.dl_look.specs.declared.finder.AnswerStage.{AnswerStage}
use Rattle.dl_look.specs.declared.finder.AnswerStage.TheVariants.{Start, Passed, Open, Answered}
use Rattle.dl_look.specs.Answer.{is_at_most, is_rising, first_place, last_place, last_upto, answer}

-- the rows since the last end row; begun: those before the rows
abbrev pub unended_after : List Row → List Row → List Row
unended_after begun [] = begun
unended_after begun (r ∷ rows) =
    if r.end_sequence then unended_after [] rows else unended_after (begun ++ r ∷ []) rows

abbrev pub unended : List Row → List Row
unended rows = unended_after [] rows

-- they are rising, and the first isn't above x
abbrev pub rises_from : Place → List Row → Bool
rises_from x rows = is_rising rows && is_at_most (first_place rows) x

-- the answer of the sequences that have ended
abbrev pub answer_kept : AnswerStage → Option Row
answer_kept Start = None
answer_kept Passed = None
answer_kept (Open last found) = None
answer_kept (Answered r) = Some r

-- what is kept of the rows since the last end row
abbrev pub Keeps : AnswerStage → Place → List Row → Type 0
Keeps Start x rows = rows ≡ []
Keeps Passed x rows = rises_from x rows ≡ false
Keeps (Open last found) x rows = (rises_from x rows ≡ true) × (last ≡ last_place rows) × (Some found ≡ last_upto x rows)
Keeps (Answered r) x rows = Unit {0}

-- the finder looks for x and was given these rows
pub record StandsFor (finder : Finder) (x : Place) (rows : List Row) : Type 0 where
  pub place : finder.place ≡ x
  pub answer : answer_kept finder.state ≡ answer rows x
  pub kept : Keeps finder.state x (unended rows)
