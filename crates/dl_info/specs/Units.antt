-- What is known of a unit of .debug_info from a front of its bytes, and texts by their indices. DWARF 5, sections 7.4,
-- 7.5 and 7.26. b: the unit's first bytes.
use Rattle.std.specs.Prelude.{ℕ, ◌+◌, ◌-◌, ◌*◌, ◌^◌, nat_le, nat_lt, if◌then◌else◌, List, length, take, drop, Option}
use Rattle.std.specs.Prelude.{Some, None, Result, Ok, Err}
use Rattle.dl_num.specs.declared.fixed.Order.{Order}
use Rattle.dl_table.specs.declared.form.Format.{Format}
use Rattle.dl_table.specs.Value.{offset_size}
use Rattle.dl_info.specs.declared.front.FieldFault.{FieldFault}
use Rattle.dl_info.specs.declared.front.FieldFault.TheVariants.{Short, Damaged}
use Rattle.dl_info.specs.declared.head.UnitLength.{UnitLength}
use Rattle.dl_info.specs.declared.unit.Answer.{Answer}
use Rattle.dl_info.specs.declared.unit.Answer.TheVariants.{Found, More, Unreadable}
use Rattle.dl_info.specs.Front.{fixed_at}
use Rattle.dl_info.specs.Heads.{length_at}
use Rattle.dl_info.specs.Entries.{EntryData, entry_at, value_of}

abbrev pub answer_map : {A B : Type 0} → (A → B) → Answer A → Answer B
answer_map f (Found a) = Found (f a)
answer_map f More = More
answer_map f Unreadable = Unreadable

-- ---- the length

abbrev pub length_answer : Result (UnitLength × List ℕ) FieldFault → Answer UnitLength
length_answer (Ok x) = Found x.0
length_answer (Err (Short n)) = More
length_answer (Err Damaged) = Unreadable

abbrev pub unit_length : Order → List ℕ → Answer UnitLength
unit_length order b = length_answer (length_at order b)

-- ---- the first entry

-- what was read of a unit that has so many bytes beyond those that are known: more help only where it has as many as are
-- wanted
abbrev pub settled : (beyond : ℕ) → Result (EntryData × List ℕ) FieldFault → Answer EntryData
settled beyond (Ok x) = Found x.0
settled beyond (Err (Short n)) = if nat_le n beyond then More else Unreadable
settled beyond (Err Damaged) = Unreadable

-- of the known bytes of a unit
abbrev pub entry_of : Order → (abbreviations : List ℕ) → (size : ℕ) → (unit : List ℕ) → Answer EntryData
entry_of order abbreviations size unit = settled (size - length unit) (entry_at order abbreviations unit)

-- of bytes that begin with a unit of this length
abbrev pub entry_with : Order → (abbreviations : List ℕ) → List ℕ → Answer UnitLength → Answer EntryData
entry_with order abbreviations b (Found l) = entry_of order abbreviations l.size (take l.size b)
entry_with order abbreviations b More = More
entry_with order abbreviations b Unreadable = Unreadable

abbrev pub first_entry : Order → (abbreviations : List ℕ) → List ℕ → Answer EntryData
first_entry order abbreviations b = entry_with order abbreviations b (unit_length order b)

-- ---- texts by their indices

-- the place of offset number `index`, where the first one stands at base
abbrev pub string_place : Format → (base index : ℕ) → Option ℕ
string_place format base index = let place = base + index * offset_size format in
    if nat_lt place (2 ^ 64) then Some place else None

-- the offset at a place of .debug_str_offsets
abbrev pub string_offset : Order → Format → (place : ℕ) → (section : List ℕ) → Option ℕ
string_offset order format place section = value_of (fixed_at order (offset_size format) (drop place section))
