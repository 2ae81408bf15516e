-- The places that were given, in order, each with its number. Section 6.2.2. No promise rests on how this is said.
use Rattle.std.specs.Prelude.{◌≡◌, ℕ, ◌<◌, ◌≤◌, true, List, length, slice_index_or}
use Rattle.dl_look.specs.declared.place.Place.{Place}
use Rattle.dl_look.specs.declared.slots.Slot.{Slot}
use Rattle.dl_look.specs.Answer.{is_at_most}

-- for the slots past the last one
abbrev pub no_place : Place
no_place = record { address = 0; op_index = 0 }

abbrev pub no_slot : Slot
no_slot = record { place = no_place; number = 0 }

abbrev pub slot_place : List Slot → ℕ → Place
slot_place slots j = (slice_index_or slots j no_slot).place

abbrev pub slot_number : List Slot → ℕ → ℕ
slot_number slots j = (slice_index_or slots j no_slot).number

-- no place is above one after it
abbrev pub IsRising : List Slot → Type 0
IsRising slots = (i j : ℕ) → i ≤ j → j < length slots → is_at_most (slot_place slots i) (slot_place slots j) ≡ true

-- each has a number of its own
pub record IsNumbered (slots : List Slot) : Type 0 where
  pub within : (j : ℕ) → j < length slots → slot_number slots j < length slots
  pub once : (i j : ℕ) → i < length slots → j < length slots → slot_number slots i ≡ slot_number slots j → i ≡ j

-- a slot for each place
pub record IsSlots (places : List Place) (slots : List Slot) : Type 0 where
  pub count : length slots ≡ length places
  pub rising : IsRising slots
  pub numbered : IsNumbered slots
  pub place : (j : ℕ) → j < length slots → slot_place slots j ≡ slice_index_or places (slot_number slots j) no_place
  pub each : (i : ℕ) → i < length places → (j : ℕ) × (j < length slots) × (slot_number slots j ≡ i)
