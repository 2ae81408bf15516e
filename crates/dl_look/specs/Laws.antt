-- What holds of each answer, whatever the rows.
use Rattle.std.specs.Prelude.{◌≡◌, ℕ, Bool, true, false, List, ◌∷◌, ◌++◌, Some}
use Rattle.dl_rows.specs.declared.row.Row.{Row}
use Rattle.dl_look.specs.declared.place.Place.{Place}
use Rattle.dl_look.specs.Answer.{place_of, is_at_most, answer}
use Rattle.dl_look.specs.LiveRows.{live_rows, live_answer}

-- it is one of the rows
abbrev pub AnswersAreRows : Type 0
AnswersAreRows =
    (rows : List Row) (x : Place) (r : Row) → answer rows x ≡ Some r
    → (front back : List Row) × (rows ≡ front ++ r ∷ back)

-- it isn't above the place
abbrev pub AnswersAreUpto : Type 0
AnswersAreUpto = (rows : List Row) (x : Place) (r : Row) → answer rows x ≡ Some r → is_at_most (place_of r) x ≡ true

-- it is no end row
abbrev pub AnswersAreNoEndRows : Type 0
AnswersAreNoEndRows = (rows : List Row) (x : Place) (r : Row) → answer rows x ≡ Some r → r.end_sequence ≡ false

-- that of the rows of live sequences is that of the first live rising sequence that covers the place
abbrev pub AnswersOfLiveRows : Type 0
AnswersOfLiveRows =
    (live : ℕ → Bool) (rows : List Row) (x : Place) → answer (live_rows live rows) x ≡ live_answer live rows x
