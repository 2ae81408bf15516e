-- What finders keep of the places and of the rows that they were given. No promise rests on how this is said.
use Rattle.std.specs.Prelude.{◌≡◌, ◌⊎◌, ℕ, ◌<◌, true, false, if◌then◌else◌, nat_lt, List, [], ◌∷◌, ◌++◌, length, Option}
use Rattle.std.specs.Prelude.{Some, None, vec_capacity}
use Rattle.std.specs.Option.{option_or}
use Rattle.dl_rows.specs.declared.row.Row.{Row}
use Rattle.dl_look.specs.declared.place.Place.{Place}
use Rattle.dl_look.specs.declared.slots.Slot.{Slot}
use Rattle.dl_look.specs.declared.trail.Stretch.{Stretch}
use Rattle.dl_look.specs.declared.finders.Finders.{Finders}
use Rattle.dl_look.specs.declared.finders.SequenceStage.{SequenceStage}
use Rattle.dl_look.specs.declared.finders.SequenceStage.TheVariants.{Start, Passed, Open}
use Rattle.dl_look.specs.Answer.{place_of, is_below, is_at_most, is_rising, first_place, last_place, covers, last_upto}
use Rattle.dl_look.specs.Answer.{answer}
use Rattle.dl_look.specs.FinderRows.{unended}
use Rattle.dl_look.specs.Ledgers.{answer_upto}
use Rattle.dl_look.specs.Slots.{IsSlots, slot_place, slot_number}
use Rattle.dl_look.specs.Trails.{row_at}
use Rattle.dl_look.specs.Units.{answer_of_units}

-- the row of x in a sequence so far: the last one that isn't above x, where a later one is
abbrev pub row_so_far : Place → List Row → Option Row
row_so_far x s = if covers x s then last_upto x s else None

-- the rows since the last end row rise, last is the last of them, and the trail has each slot's row so far
pub record IsTrail (slots : List Slot) (trail : List Stretch) (last : Row) (end : ℕ) (s : List Row) : Type 0 where
  pub rising : is_rising s ≡ true
  pub some : 0 < length s
  pub from : is_at_most (first_place s) (place_of last) ≡ true
  pub to : last_place s ≡ place_of last
  pub upto : (x : Place) → is_at_most (place_of last) x ≡ true → last_upto x s ≡ Some last
  pub split : (j : ℕ) → j < length slots → is_below (slot_place slots j) (place_of last) ≡ nat_lt j end
  pub rows : (j : ℕ) → j < length slots → row_at trail end j ≡ row_so_far (slot_place slots j) s

-- the rows since the last end row answer for no slot, whatever follows: they don't rise, or the first is above all
abbrev pub AnswerNone : List Slot → List Row → Type 0
AnswerNone slots s = (is_rising s ≡ false)
    ⊎ ((0 < length s) × ((j : ℕ) → j < length slots → is_at_most (first_place s) (slot_place slots j) ≡ false))

-- what is kept of the rows since the last end row
abbrev pub Keeps : List Slot → List Stretch → SequenceStage → List Row → Type 0
Keeps slots trail Start s = s ≡ []
Keeps slots trail Passed s = AnswerNone slots s
Keeps slots trail (Open last end) s = IsTrail slots trail last end s

-- the finders look for the places, and were given these units, which ended, and rows of the current unit
pub record Stand (finders : Finders) (places : List Place) (units : List (List Row)) (rows : List Row) : Type 0 where
  pub slots : IsSlots places finders.slots.items
  pub answers : (j : ℕ) → j < length finders.slots.items
      → answer_upto (length finders.ledger.log.items) finders.ledger (slot_number finders.slots.items j)
      ≡ option_or (answer_of_units units (slot_place finders.slots.items j))
      (answer rows (slot_place finders.slots.items j))
  pub ended : (j : ℕ) → j < length finders.slots.items
      → answer_upto finders.whole finders.ledger (slot_number finders.slots.items j)
      ≡ answer_of_units units (slot_place finders.slots.items j)
  pub earlier : (front : List (List Row)) (last : List Row) → units ≡ front ++ last ∷ [] → (j : ℕ)
      → j < length finders.slots.items → answer_upto finders.before finders.ledger (slot_number finders.slots.items j)
      ≡ answer_of_units front (slot_place finders.slots.items j)
  pub kept : Keeps finders.slots.items finders.trail.items finders.state (unended rows)

-- how many places the units that have ended answer
abbrev pub answered_count : Finders → ℕ
answered_count finders = finders.whole

-- and those that the rows of the current unit answer so far too
abbrev pub told_count : Finders → ℕ
told_count finders = length finders.ledger.log.items

-- the lists that rows and units add to have as much room as before, so that no memory was taken
pub record KeepsRoom (old new : Finders) : Type 0 where
  pub trail : vec_capacity new.trail ≡ vec_capacity old.trail
  pub log : vec_capacity new.ledger.log ≡ vec_capacity old.ledger.log
  pub slots : vec_capacity new.ledger.log_slots ≡ vec_capacity old.ledger.log_slots
