-- Worked units, computed: what the definitions make of small units, whole, cut and bad.
use Rattle.std.proofs.Common.{◌≡◌, refl, ℕ, ◌+◌, ◌-◌, List, [], ◌∷◌, ◌++◌, length, take, Option, Some, None, true}
use Rattle.std.proofs.Common.{false}
use Rattle.dl_num.specs.declared.fixed.Order.TheVariants.{Little, Big}
use Rattle.dl_table.specs.declared.fault.FaultKind.{FaultKind}
use Rattle.dl_table.specs.declared.fault.FaultKind.TheVariants as fault
use Rattle.dl_field.specs.Layout.{standard_lengths}
use Rattle.dl_head.specs.declared.dialect.Dialect.{Dialect}
use Rattle.dl_head.specs.Dialect.{version_5}
use Rattle.dl_head.specs.Header.{unit_len}
use Rattle.dl_rows.specs.declared.reader.Event.{Event}
use Rattle.dl_rows.specs.declared.reader.Event.TheVariants as event
use Rattle.dl_rows.specs.declared.row.Row.{Row}
use Rattle.dl_rows.specs.LineUnit.{events}
use Rattle.dl_rows.specs.Refusal.{left_over, unit_decided}

abbrev little : Dialect
little = version_5 Little

abbrev big : Dialect
big = version_5 Big

-- a unit of this unit_length, with empty tables: 34 bytes, and the program
abbrev unit_of : ℕ → List ℕ → List ℕ
unit_of unit_length program =
    unit_length ∷ 0 ∷ 0 ∷ 0 ∷ 5 ∷ 0 ∷ 8 ∷ 0 ∷ 0x16 ∷ 0 ∷ 0 ∷ 0 ∷ 1 ∷ 1 ∷ 1 ∷ 0xfb ∷ 0x0e ∷ 0x0d
    ∷ (standard_lengths ++ 0 ∷ 0 ∷ 0 ∷ 0 ∷ []) ++ program

abbrev unit : List ℕ → List ℕ
unit program = unit_of (0x1e + length program) program

-- what the last byte decides, and the place
abbrev refusal : List ℕ → Option FaultKind × ℕ
refusal b = (unit_decided little b, length b - length (left_over little b))

-- address, line, and whether it ends a sequence
abbrev row_at : ℕ → ℕ → Row
row_at address line = record {
  address = address;
  file = 1;
  line = line;
  column = 0;
  isa = 0;
  discriminator = 0;
  op_index = 0;
  is_stmt = true;
  basic_block = false;
  end_sequence = false;
  prologue_end = false;
  epilogue_begin = false;
}

abbrev end_at : ℕ → ℕ → Row
end_at address line = record (row_at address line) { end_sequence = true }

-- ---- whole units

abbrev smallest : List ℕ
smallest = unit (0 ∷ 1 ∷ 1 ∷ [])

smallest_length : unit_len little smallest ≡ Some (length smallest)
smallest_length = refl

smallest_events : events little smallest ≡ event.Header ∷ event.Row (end_at 0 1) ∷ []
smallest_events = refl

smallest_is_not_refused : unit_decided little smallest ≡ None
smallest_is_not_refused = refl

-- read in the other order it is a foreign unit
smallest_big : events big smallest ≡ event.Foreign 1280 ∷ []
smallest_big = refl

empty_events : events little (unit []) ≡ event.Header ∷ []
empty_events = refl

abbrev three_rows : List ℕ
three_rows = 0 ∷ 9 ∷ 2 ∷ 0 ∷ 0x10 ∷ 0x40 ∷ 0 ∷ 0 ∷ 0 ∷ 0 ∷ 0 ∷ 0x13 ∷ 0x4b ∷ 2 ∷ 2 ∷ 0 ∷ 1 ∷ 1 ∷ []

three_rows_events : events little (unit three_rows) ≡ event.Header ∷ event.Row (row_at 0x401000 2)
    ∷ event.Row (row_at 0x401004 3) ∷ event.Row (end_at 0x401006 3) ∷ []
three_rows_events = refl

abbrev foreign : List ℕ
foreign = 6 ∷ 0 ∷ 0 ∷ 0 ∷ 4 ∷ 0 ∷ 0xaa ∷ 0xbb ∷ 0xcc ∷ 0xdd ∷ []

foreign_events : events little foreign ≡ event.Foreign 4 ∷ []
foreign_events = refl

foreign_version_cut : ◌≡◌ {A = List Event} (events little (take 5 foreign)) []
foreign_version_cut = refl

-- ---- refusals

cut_in_an_operation : refusal (take 51 (unit_of 0x2f three_rows)) ≡ (Some fault.OpcodeOverrun, 49)
cut_in_an_operation = refl

opcode_past_the_end_row : refusal (unit_of 0x31 three_rows ++ 0 ∷ []) ≡ (Some fault.OpcodeOverrun, 52)
opcode_past_the_end_row = refl

empty_extended : refusal (unit (0 ∷ 0 ∷ [])) ≡ (Some fault.ExtendedEmpty, 34)
empty_extended = refl

long_end_sequence : refusal (take 37 (unit (0 ∷ 2 ∷ 1 ∷ 0 ∷ []))) ≡ (Some fault.ExtendedLength, 34)
long_end_sequence = refl

-- the greatest length of an extended opcode, and one more
longest_extended : refusal (unit (0 ∷ 0xff ∷ 0xff ∷ 0xff ∷ 0xff ∷ 0xff ∷ 0xff ∷ 0xff ∷ 0xff ∷ 0xff ∷ 1 ∷ 0x80 ∷ 0 ∷ []))
    ≡ (Some fault.OpcodeOverrun, 34)
longest_extended = refl

length_out_of_range : refusal (unit (0 ∷ 0x80 ∷ 0x80 ∷ 0x80 ∷ 0x80 ∷ 0x80 ∷ 0x80 ∷ 0x80 ∷ 0x80 ∷ 0x80 ∷ 2 ∷ []))
    ≡ (Some fault.LebRange, 34)
length_out_of_range = refl

reserved_length : refusal (0xf0 ∷ 0xff ∷ 0xff ∷ 0xff ∷ []) ≡ (Some fault.ReservedLength, 0)
reserved_length = refl

too_short_for_a_version : refusal (1 ∷ 0 ∷ 0 ∷ 0 ∷ 5 ∷ []) ≡ (Some fault.UnitOverrun, 4)
too_short_for_a_version = refl
