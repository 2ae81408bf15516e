-- Which sequences share no place with another one, by their stretches in order. No promise rests on this file.
use Rattle.std.specs.Prelude.{◌≡◌, ◌≢◌, ℕ, ◌<◌, ◌≤◌, ◌&&◌, Bool, true, false, List, length, slice_index_or}
use Rattle.dl_look.specs.declared.place.Place.{Place}
use Rattle.dl_look.specs.Answer.{is_at_most, is_below}
use Rattle.dl_look.specs.Slots.{no_place}
use Rattle.dl_sequence_rules.specs.declared.crowding.Stretch.{Stretch}
use Rattle.dl_sequence_rules.specs.declared.ended.Ended.{Ended}
use Rattle.dl_sequence_rules.specs.Covering.{covers_place}

-- for the numbers past the last one
abbrev pub no_ended : Ended
no_ended = record { unit = 0; offset = 0; row = record { number = 0; place = no_place }; first = no_place }

abbrev pub ended_at : List Ended → ℕ → Ended
ended_at sequences i = slice_index_or sequences i no_ended

abbrev pub no_stretch : Stretch
no_stretch = record { first = no_place; last = no_place; number = 0 }

abbrev pub stretch_at : List Stretch → ℕ → Stretch
stretch_at stretches k = slice_index_or stretches k no_stretch

-- the places of the sequence of this number
abbrev pub stretch_of : (number : ℕ) → Ended → Stretch
stretch_of number s = record { first = s.first; last = s.row.place; number = number }

abbrev pub covers_stretch : Place → Stretch → Bool
covers_stretch x t = is_at_most t.first x && is_below x t.last

-- none begins above one after it
abbrev pub DoBeginInOrder : List Stretch → Type 0
DoBeginInOrder stretches = (j k : ℕ) → j ≤ k → k < length stretches
    → is_at_most (stretch_at stretches j).first (stretch_at stretches k).first ≡ true

-- it is that of a sequence
pub record IsStretch (sequences : List Ended) (t : Stretch) : Type 0 where
  pub within : t.number < length sequences
  pub is : t ≡ stretch_of t.number (ended_at sequences t.number)

-- one for each sequence, in order
pub record AreStretches (sequences : List Ended) (stretches : List Stretch) : Type 0 where
  pub rise : DoBeginInOrder stretches
  pub own : (k : ℕ) → k < length stretches → IsStretch sequences (stretch_at stretches k)
  pub each : (i : ℕ) → i < length sequences → (k : ℕ) × (k < length stretches) × ((stretch_at stretches k).number ≡ i)

-- their numbers are below this one
abbrev pub AreBelow : (count : ℕ) → List Stretch → Type 0
AreBelow count stretches = (k : ℕ) → k < length stretches → (stretch_at stretches k).number < count

-- it shares no place with another one
abbrev pub IsApart : List Stretch → (k : ℕ) → Type 0
IsApart stretches k = (m : ℕ) → m < length stretches → m ≢ k → (x : Place) → covers_stretch x (stretch_at stretches k) ≡ true
    → covers_stretch x (stretch_at stretches m) ≡ false

-- each mark stands at the number of one that shares no place with another one
abbrev pub AreMarks : List Stretch → (marks : List Bool) → Type 0
AreMarks stretches marks = (i : ℕ) → slice_index_or marks i false ≡ true
    → (k : ℕ) × (k < length stretches) × ((stretch_at stretches k).number ≡ i) × IsApart stretches k

-- the same of a sequence
abbrev pub IsAlone : List Ended → (i : ℕ) → Type 0
IsAlone sequences i = (j : ℕ) → j < length sequences → j ≢ i → (x : Place) → covers_place x (ended_at sequences i) ≡ true
    → covers_place x (ended_at sequences j) ≡ false

pub record AreAlone (sequences : List Ended) (marks : List Bool) : Type 0 where
  pub count : length marks ≡ length sequences
  pub alone : (i : ℕ) → slice_index_or marks i false ≡ true → IsAlone sequences i
