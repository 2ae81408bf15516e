-- Worked programs, computed: what the definitions write for small lists of rows.
use Rattle.std.proofs.Common.{◌≡◌, refl, ℕ, List, [], ◌∷◌, Some, true, false, negsuc}
use Rattle.dl_num.specs.declared.fixed.Order.TheVariants.{Little, Big}
use Rattle.dl_table.specs.declared.form.Format.TheVariants.{Dwarf32}
use Rattle.dl_field.specs.declared.params.Params.{Params}
use Rattle.dl_field.specs.Layout.{standard_lengths}
use Rattle.dl_rows.specs.declared.row.Row.{Row}
use Rattle.dl_emit.specs.declared.fault.EmitFault.TheVariants as fault
use Rattle.dl_emit.specs.WrittenUnit.{program_bytes, rows_refusal}

-- one byte an instruction, one operation each, lines from -5 on, special opcodes from 13 on
abbrev plain : Params
plain = record {
  format = Dwarf32;
  version = 5;
  address_size = 8;
  segment_selector_size = 0;
  minimum_instruction_length = 1;
  maximum_operations_per_instruction = 1;
  default_is_stmt = 1;
  line_base = negsuc 4;
  line_range = 14;
  opcode_base = 13;
  lengths = record { items = standard_lengths };
}

-- 16 bytes an instruction, three operations each
abbrev bundles : Params
bundles = record plain { minimum_instruction_length = 16; maximum_operations_per_instruction = 3 }

abbrev four_bytes : Params
four_bytes = record plain { address_size = 4 }

-- a row of file 1 and column 0, a statement
abbrev a_row : ℕ → ℕ → ℕ → Row
a_row address op_index line = record {
  address = address;
  file = 1;
  line = line;
  column = 0;
  isa = 0;
  discriminator = 0;
  op_index = op_index;
  is_stmt = true;
  basic_block = false;
  end_sequence = false;
  prologue_end = false;
  epilogue_begin = false;
}

abbrev three_rows : List Row
three_rows = a_row 4198400 0 2 ∷ a_row 4198404 0 3 ∷ (record (a_row 4198406 0 3) { end_sequence = true }) ∷ []

special_opcodes_and_an_end : program_bytes Little plain three_rows ≡ 0 ∷ 9 ∷ 2 ∷ 0 ∷ 16 ∷ 64 ∷ 0 ∷ 0 ∷ 0 ∷ 0 ∷ 0 ∷ 19
    ∷ 75 ∷ 2 ∷ 2 ∷ 0 ∷ 1 ∷ 1 ∷ []
special_opcodes_and_an_end = refl

-- the address in the other order
in_big : program_bytes Big plain three_rows ≡ 0 ∷ 9 ∷ 2 ∷ 0 ∷ 0 ∷ 0 ∷ 0 ∷ 0 ∷ 64 ∷ 16 ∷ 0 ∷ 19 ∷ 75 ∷ 2 ∷ 2 ∷ 0 ∷ 1 ∷ 1
    ∷ []
in_big = refl

-- three operations fill an instruction
op_indexes : program_bytes Little bundles (a_row 4096 1 1 ∷ a_row 4096 2 1 ∷ a_row 4112 0 1 ∷ []) ≡ 0 ∷ 9 ∷ 2 ∷ 0 ∷ 16
    ∷ 0 ∷ 0 ∷ 0 ∷ 0 ∷ 0 ∷ 0 ∷ 32 ∷ 32 ∷ 32 ∷ []
op_indexes = refl

-- a line below 1 is one near 2^64
line_wraps : program_bytes Little four_bytes (a_row 0 0 1 ∷ a_row 0 0 0xffff_ffff_ffff_ffff ∷ []) ≡ 0 ∷ 5 ∷ 2 ∷ 0 ∷ 0
    ∷ 0 ∷ 0 ∷ 18 ∷ 16 ∷ []
line_wraps = refl

-- an address that falls, and lines a special opcode can't and can reach
steps : program_bytes Little plain (a_row 8 0 1 ∷ a_row 4 0 10 ∷ a_row 4 0 18 ∷ a_row 0x15 0 17 ∷ a_row 0x26 0 17 ∷ [])
    ≡ 0 ∷ 9 ∷ 2 ∷ 8 ∷ 0 ∷ 0 ∷ 0 ∷ 0 ∷ 0 ∷ 0 ∷ 0 ∷ 18 ∷ 0 ∷ 9 ∷ 2 ∷ 4 ∷ 0 ∷ 0 ∷ 0 ∷ 0 ∷ 0 ∷ 0 ∷ 0 ∷ 3 ∷ 9 ∷ 1 ∷ 26 ∷ 255
    ∷ 2 ∷ 17 ∷ 1 ∷ []
steps = refl

-- marks hold for one row
marked : program_bytes Little plain ((record (a_row 0 0 1) { discriminator = 7; prologue_end = true }) ∷ a_row 0 0 1
    ∷ []) ≡ 0 ∷ 2 ∷ 4 ∷ 7 ∷ 10 ∷ 0 ∷ 9 ∷ 2 ∷ 0 ∷ 0 ∷ 0 ∷ 0 ∷ 0 ∷ 0 ∷ 0 ∷ 0 ∷ 18 ∷ 18 ∷ []
marked = refl

out_of_range : rows_refusal bundles (a_row 4096 3 1 ∷ []) ≡ Some (fault.RowRange 0)
out_of_range = refl
