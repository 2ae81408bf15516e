-- Fields of a header and of its tables, and what bytes are as one of them. DWARF 5, sections 6.2.4 and 7.4.
use Rattle.std.specs.Prelude.{ℕ, zero, suc, ◌-◌, ◌^◌, Bool, true, false, not, ◌&&◌, ◌||◌, List, [], ◌∷◌, ◌++◌, length}
use Rattle.std.specs.Prelude.{take, drop, Option, Some, None, Ok, Err, nat_lt, nat_le, ◌==◌, if◌then◌else◌, slice_index}
use Rattle.dl_num.specs.declared.fixed.Order.{Order}
use Rattle.dl_num.specs.Fixed.{fixed}
use Rattle.dl_num.specs.Leb.{groups}
use Rattle.dl_num.specs.LebFront.{is_leb}
use Rattle.dl_table.specs.declared.form.Format.{Format}
use Rattle.dl_table.specs.declared.form.Format.TheVariants.{Dwarf32, Dwarf64}
use Rattle.dl_table.specs.declared.form.Form.{Form}
use Rattle.dl_table.specs.declared.form.Form.TheVariants as form
use Rattle.dl_table.specs.declared.table.Pair.{Pair}
use Rattle.dl_table.specs.declared.fault.FaultKind.{FaultKind}
use Rattle.dl_table.specs.declared.fault.FaultKind.TheVariants as fault
use Rattle.dl_table.specs.TableData.{TableData}
use Rattle.dl_field.specs.declared.params.Params.{Params}
use Rattle.dl_field.specs.HeaderData.{HeaderData}
use Rattle.dl_table.specs.Value.{Value, Judgement, good, bad, form_of_code, offset_size, text_spelt, value_spelt}

-- the greatest unit_length that is accepted
abbrev pub unit_length_limit : ℕ
unit_length_limit = 2 ^ 40

-- a field that is a number
pub data NumberField : Type 0 where
  version : NumberField
  address_size : NumberField
  any_byte : NumberField
  -- how many bytes are left in the unit after the field
  header_length : Format → ℕ → NumberField
  maximum_operations : NumberField
  line_range : NumberField
  opcode_base : NumberField
  -- of which opcode
  opcode_length : ℕ → NumberField
  content_code : NumberField
  -- whether an entry has values
  entry_count : Bool → NumberField

-- What stands at the front of a header or of the rest of one: a field, with what follows each value of it, or nothing
-- more.
pub data Layout : Type 0 where
  initial_length_then : (Format → ℕ → Layout) → Layout
  number_then : NumberField → (ℕ → Layout) → Layout
  form_then : (Form → Layout) → Layout
  value_then : Format → Form → (Value → Layout) → Layout
  -- of a table of versions 2 to 4, after these entries: the path that the next entry begins with, or the zero byte after
  -- the last one
  path_or_end : Format → List Pair → List (List Value) → (TableData → Layout) → Layout
  foreign_version : ℕ → Layout
  last_entry : HeaderData → Layout

-- the operands of the standard opcodes 1 to 12, section 6.2.5.2
abbrev pub standard_lengths : List ℕ
standard_lengths = 0 ∷ 1 ∷ 1 ∷ 1 ∷ 1 ∷ 0 ∷ 0 ∷ 0 ∷ 1 ∷ 0 ∷ 0 ∷ 1 ∷ []

-- the params with opcode_base 13 and the lengths of section 6.2.5.2
abbrev pub standard_params : Params → Params
standard_params p = record p { opcode_base = 13; lengths = record { items = standard_lengths } }

-- count pairs of a content code and a form code
abbrev pub pairs_layout : ℕ → List Pair → (List Pair → Layout) → Layout
pairs_layout zero before next = next before
pairs_layout (suc count) before next =
    number_then content_code λ code. form_then λ f. pairs_layout count
    (before ++ record { content = code; form = f } ∷ []) next

-- one entry: a value for each pair
abbrev pub entry_layout : Format → List Pair → List Value → (List Value → Layout) → Layout
entry_layout format [] before next = next before
entry_layout format (p ∷ pairs) before next =
    value_then format p.form λ v. entry_layout format pairs (before ++ v ∷ []) next

-- count entries
abbrev pub entries_layout : Format → List Pair → ℕ → List (List Value) → (List (List Value) → Layout) → Layout
entries_layout format pairs zero before next = next before
entries_layout format pairs (suc count) before next =
    entry_layout format pairs [] λ entry. entries_layout format pairs count (before ++ entry ∷ []) next

-- the count of the pairs, the pairs, the count of the entries, the entries
abbrev pub table_layout : Format → (TableData → Layout) → Layout
table_layout format next =
    number_then any_byte λ pair_count.
    pairs_layout pair_count [] λ pairs.
    number_then (entry_count (not (pair_count == 0))) λ count.
    entries_layout format pairs count [] λ entries.
    next (record { format = format; pairs = pairs; entries = entries })

-- what each entry of a table of versions 2 to 4 says, DWARF 4, section 6.2.4: a path; of a file also its directory, its
-- time and its size
abbrev pub listed_directory : List Pair
listed_directory = record { content = 1; form = form.String } ∷ []

abbrev pub listed_file : List Pair
listed_file = record { content = 1; form = form.String } ∷ record { content = 2; form = form.Udata }
    ∷ record { content = 3; form = form.Udata } ∷ record { content = 4; form = form.Udata } ∷ []

-- the rest of an entry of a table of versions 2 to 4, after these values of it, and the entries after it
abbrev pub listed_from : Format → List Pair → List (List Value) → List Value → (TableData → Layout) → Layout
listed_from format pairs entries before next =
    entry_layout format (drop (length before) pairs) before λ entry. path_or_end format pairs (entries ++ entry ∷ []) next

-- the value of a field
pub data Item : Type 0 where
  length_is : Format → ℕ → Item
  number_is : ℕ → Item
  form_is : Form → Item
  value_is : Value → Item
  -- a table of versions 2 to 4 ends, whose entries have so many values
  end_is : ℕ → Item

-- what follows a field of this value
abbrev pub following : Layout → Item → Layout
following (initial_length_then next) (length_is format n) = next format n
following (number_then field next) (number_is n) = next n
following (form_then next) (form_is f) = next f
following (value_then format f next) (value_is v) = next v
following (path_or_end format pairs entries next) (value_is v) = listed_from format pairs entries (v ∷ []) next
following (path_or_end format pairs entries next) (end_is n) =
    next (record { format = format; pairs = pairs; entries = entries })
following layout item = layout

-- what follows fields of these values
abbrev pub following_all : Layout → List Item → Layout
following_all layout [] = layout
following_all layout (i ∷ items) = following_all (following layout i) items

-- the initial length as a field: four bytes below 0xfffffff0; or 0xffffffff, and eight bytes
abbrev pub short_length : ℕ → Judgement Item
short_length n =
    if nat_lt n 0xfffffff0 then (if nat_le n unit_length_limit then good (length_is Dwarf32 n)
    else bad fault.UnitTooLong) else
    if n == 0xffffffff then None else bad fault.ReservedLength

abbrev pub long_length : ℕ → Judgement Item
long_length n = if nat_le n unit_length_limit then good (length_is Dwarf64 n) else bad fault.UnitTooLong

abbrev pub initial_length_spelt : Order → List ℕ → Judgement Item
initial_length_spelt order w =
    if length w == 4 then short_length (fixed order w) else
    if (length w == 12) && (fixed order (take 4 w) == 0xffffffff) then long_length (fixed order (drop 4 w)) else None

-- what is wrong with a number in its field
abbrev pub objection : NumberField → ℕ → Option FaultKind
objection version n = None
objection address_size n = if (n == 1) || (n == 2) || (n == 4) || (n == 8) then None else Some fault.AddressSize
objection any_byte n = None
objection (header_length format left) n = if nat_le n left then None else Some fault.HeaderBeyondUnit
objection maximum_operations n = if n == 0 then Some fault.MaxOps else None
objection line_range n = if n == 0 then Some fault.LineRange else None
objection opcode_base n = if n == 0 then Some fault.OpcodeBase else None
objection (opcode_length opcode) n =
    if nat_lt 12 opcode || (n == slice_index standard_lengths (opcode - 1)) then None
    else Some (fault.StandardLength opcode)
objection content_code n = if nat_lt n (2 ^ 64) then None else Some fault.LebRange
objection (entry_count true) n = if nat_lt n (2 ^ 64) then None else Some fault.LebRange
objection (entry_count false) n = if n == 0 then None else Some fault.EmptyFormat

abbrev pub judged : Option FaultKind → ℕ → Judgement Item
judged None n = good (number_is n)
judged (Some kind) n = bad kind

-- the size of a number; None is LEB128
abbrev pub number_size : NumberField → Option ℕ
number_size version = Some 2
number_size (header_length format left) = Some (offset_size format)
number_size content_code = None
number_size (entry_count b) = None
number_size field = Some 1

abbrev pub sized_spelt : Order → Option ℕ → List ℕ → Option ℕ
sized_spelt order (Some k) w = if length w == k then Some (fixed order w) else None
sized_spelt order None w = if is_leb w then Some (groups w) else None

abbrev pub number_judged : NumberField → Option ℕ → Judgement Item
number_judged field None = None
number_judged field (Some n) = judged (objection field n) n

abbrev pub form_judged : ℕ → Option Form → Judgement Item
form_judged code (Some f) = good (form_is f)
form_judged code None = if nat_lt code (2 ^ 64) then bad (fault.UnknownForm code) else bad fault.LebRange

abbrev pub value_judged : Judgement Value → Judgement Item
value_judged None = None
value_judged (Some (Ok v)) = good (value_is v)
value_judged (Some (Err kind)) = bad kind

-- a path, which has a byte; or the zero byte alone, where the entries have so many values
abbrev pub path_judged : ℕ → List ℕ → Judgement Item
path_judged width [] = None
path_judged width (b ∷ []) = if b == 0 then good (end_is width) else None
path_judged width (b ∷ c ∷ w) = value_judged (text_spelt (b ∷ c ∷ w))

-- what w is as the field at the front of a layout
abbrev pub field_spelt : Order → Layout → List ℕ → Judgement Item
field_spelt order (initial_length_then next) w = initial_length_spelt order w
field_spelt order (number_then field next) w = number_judged field (sized_spelt order (number_size field) w)
field_spelt order (form_then next) w = if is_leb w then form_judged (groups w) (form_of_code (groups w)) else None
field_spelt order (value_then format f next) w = value_judged (value_spelt order format f w)
field_spelt order (path_or_end format pairs entries next) w = path_judged (length pairs) w
field_spelt order (foreign_version v) w = None
field_spelt order (last_entry h) w = None
