-- The answers of places, in the order in which they come. No promise rests on how this is said.
use Rattle.std.specs.Prelude.{◌≡◌, ℕ, suc, ◌+◌, ◌<◌, ◌≤◌, if◌then◌else◌, false, nat_lt, List, [], ◌∷◌, length}
use Rattle.std.specs.Prelude.{slice_index, slice_index_or, vec_capacity, Option, Some, None, is_none, is_some}
use Rattle.std.specs.Option.{option_and_then}
use Rattle.dl_rows.specs.declared.row.Row.{Row}
use Rattle.dl_look.specs.declared.slots.Slot.{Slot}
use Rattle.dl_look.specs.declared.ledger.Ledger.{Ledger}
use Rattle.dl_look.specs.declared.ledger.Answered.{Answered}
use Rattle.dl_look.specs.Links.{IsLinked, is_open, is_sealed}
use Rattle.dl_look.specs.Slots.{slot_number}

-- for the places past the end of a list of answers
abbrev pub no_row : Row
no_row = record {
  address = 0;
  file = 0;
  line = 0;
  column = 0;
  isa = 0;
  discriminator = 0;
  op_index = 0;
  is_stmt = false;
  basic_block = false;
  end_sequence = false;
  prologue_end = false;
  epilogue_begin = false;
}

abbrev pub no_answer : Answered
no_answer = record { number = 0; row = no_row }

abbrev pub answered_at : Ledger → ℕ → Answered
answered_at ledger e = slice_index_or ledger.log.items e no_answer

-- the slot of an answer
abbrev pub answered_slot : Ledger → ℕ → ℕ
answered_slot ledger e = slice_index ledger.log_slots.items e

-- where the answer of the place i stands among the answers
abbrev pub entry_at : Ledger → ℕ → Option ℕ
entry_at ledger i = slice_index_or ledger.entries.items i None

-- the answer of the place i, where it is among the first `limit`
abbrev pub answer_upto : ℕ → Ledger → ℕ → Option Row
answer_upto limit ledger i =
    option_and_then (λ e. if nat_lt e limit then Some (answered_at ledger e).row else None) (entry_at ledger i)

-- how many places have no answer
abbrev pub unanswered : List (Option ℕ) → ℕ
unanswered [] = 0
unanswered (None ∷ entries) = suc (unanswered entries)
unanswered (Some e ∷ entries) = unanswered entries

-- each place has one answer at most, and a slot is open where its place has none
pub record IsSound (slots : List Slot) (ledger : Ledger) : Type 0 where
  pub linked : IsLinked ledger.links
  pub links : length ledger.links.next.items ≡ length slots + 1
  pub count : length ledger.entries.items ≡ length slots
  pub «open» : (j : ℕ) → j < length slots
      → is_open ledger.links.next.items j ≡ is_none (entry_at ledger (slot_number slots j))
  pub logged : (i e : ℕ) → entry_at ledger i ≡ Some e
      → (e < length ledger.log.items) × ((answered_at ledger e).number ≡ i)
  pub kept : (e : ℕ) → e < length ledger.log.items → entry_at ledger (answered_at ledger e).number ≡ Some e
  pub room : length ledger.log.items + unanswered ledger.entries.items ≡ length slots
  pub capacity : length slots ≤ vec_capacity ledger.log
  pub log_slots : length ledger.log_slots.items ≡ length ledger.log.items
  pub within : (e : ℕ) → e < length ledger.log.items → answered_slot ledger e < length slots
  pub slot : (e : ℕ) → e < length ledger.log.items
      → slot_number slots (answered_slot ledger e) ≡ (answered_at ledger e).number
  pub slots_capacity : length slots ≤ vec_capacity ledger.log_slots

-- the sealed slots are those whose place has its answer among the first `whole`
abbrev pub AreSealed : List Slot → ℕ → Ledger → Type 0
AreSealed slots whole ledger =
    (j : ℕ) → j < length slots
    → is_sealed ledger.links.sealed.items j ≡ is_some (answer_upto whole ledger (slot_number slots j))
