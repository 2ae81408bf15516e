-- Worked rows, computed: what the definitions make of small programs.
use Rattle.std.proofs.Common.{◌≡◌, refl, ℕ, ◌+◌, List, [], ◌∷◌, ◌++◌, length, Option, Some, None, Ok, Err, true, false}
use Rattle.std.proofs.Common.{negsuc}
use Rattle.std.specs.Prelude.{map, take}
use Rattle.dl_num.specs.declared.fixed.Order.{Order}
use Rattle.dl_num.specs.declared.fixed.Order.TheVariants.{Little, Big}
use Rattle.dl_table.specs.declared.form.Format.TheVariants.{Dwarf32}
use Rattle.dl_field.specs.declared.params.Params.{Params}
use Rattle.dl_table.specs.declared.fault.FaultKind.{FaultKind}
use Rattle.dl_table.specs.declared.fault.FaultKind.TheVariants as fault
use Rattle.dl_field.specs.Layout.{standard_lengths}
use Rattle.dl_rows.specs.declared.row.Row.{Row}
use Rattle.dl_rows.specs.OperationSpelt.{operation_spelt, operations_in}
use Rattle.dl_rows.specs.Matrix.{matrix}

-- ---- headers

-- one byte an instruction, one operation each, lines from -5 on, special opcodes from 13 on
abbrev plain : Params
plain = record {
  format = Dwarf32;
  version = 5;
  address_size = 8;
  segment_selector_size = 0;
  minimum_instruction_length = 1;
  maximum_operations_per_instruction = 1;
  default_is_stmt = 1;
  line_base = negsuc 4;
  line_range = 14;
  opcode_base = 13;
  lengths = record { items = standard_lengths };
}

-- 16 bytes an instruction, three operations each
abbrev bundles : Params
bundles = record plain { minimum_instruction_length = 16; maximum_operations_per_instruction = 3 }

-- one byte an instruction, three operations each
abbrev triples : Params
triples = record plain { maximum_operations_per_instruction = 3 }

abbrev four_bytes : Params
four_bytes = record plain { address_size = 4 }

-- special opcodes from 10 on
abbrev base_10 : Params
base_10 = record plain { opcode_base = 10; lengths = record { items = take 9 standard_lengths } }

-- opcode 13 has two operands
abbrev base_14 : Params
base_14 = record plain { opcode_base = 14; lengths = record { items = standard_lengths ++ 2 ∷ [] } }

-- ---- what is computed

abbrev rows : Order → Params → List ℕ → List Row
rows order h program = matrix h (operations_in order h program).found

-- address, op_index and line
abbrev places : List Row → List (ℕ × ℕ × ℕ)
places [] = []
places (r ∷ rs) = (r.address, r.op_index, r.line) ∷ places rs

-- how many bytes the first front has that is bad, and of which kind; begun: bytes in front that aren't
abbrev bad_front : Order → Params → List ℕ → List ℕ → Option (ℕ × FaultKind)
bad_front order h begun [] = None
bad_front order h begun (x ∷ b) = elim (operation_spelt order h (begun ++ x ∷ [])) [
  | Some (Err kind) ↦ Some (length begun + 1, kind)
  | Some (Ok o) ↦ None
  | None ↦ bad_front order h (begun ++ x ∷ []) b
]

-- what is refused after the operations of a program
abbrev refusal : Order → Params → List ℕ → Option (ℕ × FaultKind)
refusal order h program = bad_front order h [] (operations_in order h program).rest

-- ---- rows

-- all that a row has where nothing was set
end_row_alone : rows Little plain (0 ∷ 1 ∷ 1 ∷ []) ≡ (record {
  address = 0;
  file = 1;
  line = 1;
  column = 0;
  isa = 0;
  discriminator = 0;
  op_index = 0;
  is_stmt = true;
  basic_block = false;
  end_sequence = true;
  prologue_end = false;
  epilogue_begin = false;
}) ∷ []
end_row_alone = refl

three_rows : places (rows Little plain (0 ∷ 9 ∷ 2 ∷ 0 ∷ 16 ∷ 64 ∷ 0 ∷ 0 ∷ 0 ∷ 0 ∷ 0 ∷ 19 ∷ 75 ∷ 2 ∷ 2 ∷ 0 ∷ 1 ∷ 1 ∷ []))
    ≡ (4198400, 0, 2) ∷ (4198404, 0, 3) ∷ (4198406, 0, 3) ∷ []
three_rows = refl

-- the address in the other order
three_rows_big : places (rows Big plain (0 ∷ 9 ∷ 2 ∷ 0 ∷ 0 ∷ 0 ∷ 0 ∷ 0 ∷ 64 ∷ 16 ∷ 0 ∷ 19 ∷ 75 ∷ 2 ∷ 2 ∷ 0 ∷ 1 ∷ 1
    ∷ [])) ≡ (4198400, 0, 2) ∷ (4198404, 0, 3) ∷ (4198406, 0, 3) ∷ []
three_rows_big = refl

special_opcodes : places (rows Little plain (0 ∷ 9 ∷ 2 ∷ 0 ∷ 16 ∷ 64 ∷ 0 ∷ 0 ∷ 0 ∷ 0 ∷ 0 ∷ 19 ∷ 75 ∷ 0 ∷ 1 ∷ 1 ∷ []))
    ≡ (4198400, 0, 2) ∷ (4198404, 0, 3) ∷ (4198404, 0, 3) ∷ []
special_opcodes = refl

-- three operations fill an instruction
op_index : places (rows Little bundles (0 ∷ 9 ∷ 2 ∷ 0 ∷ 16 ∷ 0 ∷ 0 ∷ 0 ∷ 0 ∷ 0 ∷ 0 ∷ 32 ∷ 32 ∷ 32 ∷ []))
    ≡ (4096, 1, 1) ∷ (4096, 2, 1) ∷ (4112, 0, 1) ∷ []
op_index = refl

-- address and line wrap, at their own sizes
four_byte_address : places (rows Little four_bytes (0 ∷ 5 ∷ 2 ∷ 255 ∷ 255 ∷ 255 ∷ 255 ∷ 2 ∷ 1 ∷ 1 ∷ 3 ∷ 126 ∷ 1 ∷ []))
    ≡ (0, 0, 1) ∷ (0, 0, 18446744073709551615) ∷ []
four_byte_address = refl

-- op_index and an advance of 2^64 - 1 aren't added in 64 bits
huge_advance : places (rows Little triples (32 ∷ 2 ∷ 255 ∷ 255 ∷ 255 ∷ 255 ∷ 255 ∷ 255 ∷ 255 ∷ 255 ∷ 255 ∷ 1 ∷ 1 ∷ []))
    ≡ (0, 1, 1) ∷ (6148914691236517205, 1, 1) ∷ []
huge_advance = refl

greatest_line_step : places (rows Little plain (3 ∷ 128 ∷ 128 ∷ 128 ∷ 128 ∷ 128 ∷ 128 ∷ 128 ∷ 128 ∷ 128 ∷ 127 ∷ 1 ∷ []))
    ≡ (0, 0, 9223372036854775809) ∷ []
greatest_line_step = refl

-- opcode 10 is a special one
opcode_base_10 : places (rows Little base_10 (3 ∷ 10 ∷ 10 ∷ [])) ≡ (0, 0, 6) ∷ []
opcode_base_10 = refl

-- unknown opcodes are passed over: a standard one by its number of operands, an extended one by its length
opcode_base_14 : places (rows Little base_14 (13 ∷ 128 ∷ 1 ∷ 5 ∷ 0 ∷ 4 ∷ 128 ∷ 170 ∷ 187 ∷ 204 ∷ 0 ∷ 1 ∷ 1 ∷ []))
    ≡ (0, 0, 1) ∷ []
opcode_base_14 = refl

-- operands that are passed over may have any size
long_operands : places (rows Little base_14 (13 ∷ 255 ∷ 255 ∷ 255 ∷ 255 ∷ 255 ∷ 255 ∷ 255 ∷ 255 ∷ 255 ∷ 255 ∷ 255 ∷ 1
    ∷ 5 ∷ 1 ∷ [])) ≡ (0, 0, 1) ∷ []
long_operands = refl

-- the operand of fixed_advance_pc is added as it is, and op_index becomes 0
fixed_advance : places (rows Little bundles (32 ∷ 9 ∷ 52 ∷ 18 ∷ 1 ∷ [])) ≡ (0, 1, 1) ∷ (4660, 0, 1) ∷ []
fixed_advance = refl

fixed_advance_big : places (rows Big bundles (32 ∷ 9 ∷ 18 ∷ 52 ∷ 1 ∷ [])) ≡ (0, 1, 1) ∷ (4660, 0, 1) ∷ []
fixed_advance_big = refl

constant_advance : places (rows Little plain (8 ∷ 1 ∷ [])) ≡ (17, 0, 1) ∷ []
constant_advance = refl

addresses_set_twice : places (rows Little plain (0 ∷ 9 ∷ 2 ∷ 8 ∷ 0 ∷ 0 ∷ 0 ∷ 0 ∷ 0 ∷ 0 ∷ 0 ∷ 18 ∷ 0 ∷ 9 ∷ 2 ∷ 4 ∷ 0 ∷ 0
    ∷ 0 ∷ 0 ∷ 0 ∷ 0 ∷ 0 ∷ 3 ∷ 9 ∷ 1 ∷ 26 ∷ 255 ∷ 2 ∷ 17 ∷ 1 ∷ [])) ≡ (8, 0, 1) ∷ (4, 0, 10) ∷ (4, 0, 18) ∷ (21, 0, 17)
    ∷ (38, 0, 17) ∷ []
addresses_set_twice = refl

-- padding is part of a number
padded_column : map (λ r. r.column) (rows Little plain (5 ∷ 131 ∷ 128 ∷ 128 ∷ 128 ∷ 128 ∷ 128 ∷ 128 ∷ 128 ∷ 128 ∷ 128
    ∷ 128 ∷ 0 ∷ 1 ∷ [])) ≡ 3 ∷ []
padded_column = refl

-- a discriminator holds for one row
discriminators : map (λ r. r.discriminator) (rows Little plain (0 ∷ 2 ∷ 4 ∷ 7 ∷ 10 ∷ 1 ∷ 1 ∷ [])) ≡ 7 ∷ 0 ∷ []
discriminators = refl

-- so does prologue_end
prologue_ends : map (λ r. r.prologue_end) (rows Little plain (0 ∷ 2 ∷ 4 ∷ 7 ∷ 10 ∷ 1 ∷ 1 ∷ [])) ≡ true ∷ false ∷ []
prologue_ends = refl

-- a file holds to the end of its sequence
file_0 : map (λ r. r.file) (rows Little plain (4 ∷ 0 ∷ 1 ∷ 2 ∷ 4 ∷ 0 ∷ 1 ∷ 1 ∷ 1 ∷ [])) ≡ 0 ∷ 0 ∷ 1 ∷ []
file_0 = refl

-- ---- bad operations: after how many bytes, and of which kind

padded_too_far : refusal Little plain (5 ∷ 131 ∷ 128 ∷ 128 ∷ 128 ∷ 128 ∷ 128 ∷ 128 ∷ 128 ∷ 128 ∷ 128 ∷ 128 ∷ 1 ∷ 1 ∷ [])
    ≡ Some (13, fault.LebRange)
padded_too_far = refl

line_out_of_range : refusal Little plain (3 ∷ 128 ∷ 128 ∷ 128 ∷ 128 ∷ 128 ∷ 128 ∷ 128 ∷ 128 ∷ 128 ∷ 1 ∷ 1 ∷ [])
    ≡ Some (11, fault.LebRange)
line_out_of_range = refl

length_out_of_range : refusal Little plain (0 ∷ 128 ∷ 128 ∷ 128 ∷ 128 ∷ 128 ∷ 128 ∷ 128 ∷ 128 ∷ 128 ∷ 2 ∷ [])
    ≡ Some (11, fault.LebRange)
length_out_of_range = refl

-- the greatest length, whose bytes have not all come
greatest_length : refusal Little plain (0 ∷ 255 ∷ 255 ∷ 255 ∷ 255 ∷ 255 ∷ 255 ∷ 255 ∷ 255 ∷ 255 ∷ 1 ∷ 128 ∷ 0 ∷ [])
    ≡ None
greatest_length = refl

no_length : refusal Little plain (0 ∷ 0 ∷ []) ≡ Some (2, fault.ExtendedEmpty)
no_length = refl

long_end_sequence : refusal Little plain (0 ∷ 2 ∷ 1 ∷ 0 ∷ []) ≡ Some (3, fault.ExtendedLength)
long_end_sequence = refl

short_address : refusal Little plain (0 ∷ 5 ∷ 2 ∷ 255 ∷ 255 ∷ 255 ∷ 255 ∷ []) ≡ Some (3, fault.ExtendedLength)
short_address = refl

long_discriminator : refusal Little plain (0 ∷ 3 ∷ 4 ∷ 5 ∷ 0 ∷ []) ≡ Some (4, fault.ExtendedLength)
long_discriminator = refl

-- an operand out of range that ends before its length does: out of range counts
range_before_length : refusal Little plain (0 ∷ 32 ∷ 4 ∷ 128 ∷ 128 ∷ 128 ∷ 128 ∷ 128 ∷ 128 ∷ 128 ∷ 128 ∷ 128 ∷ 2 ∷ 0
    ∷ []) ≡ Some (13, fault.LebRange)
range_before_length = refl

-- the bytes before it are taken
after_two_rows : refusal Little plain (1 ∷ 0 ∷ 1 ∷ 1 ∷ 0 ∷ 0 ∷ []) ≡ Some (2, fault.ExtendedEmpty)
after_two_rows = refl
