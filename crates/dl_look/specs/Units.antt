-- The rows that answer for places in units, one after the other.
use Rattle.std.specs.Prelude.{◌≡◌, ℕ, ◌<◌, List, [], ◌∷◌, length, slice_get, slice_index_or, Option, Some, None}
use Rattle.std.specs.Option.{option_or}
use Rattle.dl_rows.specs.declared.row.Row.{Row}
use Rattle.dl_look.specs.declared.place.Place.{Place}
use Rattle.dl_look.specs.declared.ledger.Answered.{Answered}
use Rattle.dl_look.specs.Answer.{answer}

-- the answer of the first unit whose rows have one
abbrev pub answer_of_units : List (List Row) → Place → Option Row
answer_of_units [] x = None
answer_of_units (rows ∷ units) x = option_or (answer rows x) (answer_of_units units x)

-- the place of number i has no answer in the units, and this row as its answer in the unit after them
abbrev pub FirstAnswer : List Place → List (List Row) → List Row → ℕ → Row → Type 0
FirstAnswer places units rows i r =
    (x : Place) × (slice_get places i ≡ Some x) × (answer_of_units units x ≡ None) × (answer rows x ≡ Some r)

-- the places that the unit after the units is the first to answer, with their rows: each once, and no others
pub record AreFirstAnswers (places : List Place) (units : List (List Row)) (rows : List Row)
    (answered : List Answered) : Type 0 where
  pub right : (k : ℕ) (d : Answered) → k < length answered
      → FirstAnswer places units rows (slice_index_or answered k d).number (slice_index_or answered k d).row
  pub all : (i : ℕ) (r : Row) → FirstAnswer places units rows i r
      → (k : ℕ) × (k < length answered) × ((d : Answered) → slice_index_or answered k d ≡ record {
        number = i;
        row =
            r;
      })
  pub once : (k m : ℕ) (d : Answered) → k < length answered → m < length answered
      → (slice_index_or answered k d).number ≡ (slice_index_or answered m d).number → k ≡ m
