-- The registers of the state machine, modulo 2^64. Sections 6.2.2 and 6.2.5. No promise rests on this file.
use Rattle.std.specs.Prelude.{ℕ, ◌+◌, ◌-◌, ◌*◌, ◌/◌, ◌%◌, ◌^◌, ◌+ℤ◌, ℤ, pos, Bool, true, false, not, Option, Some, None, if◌then◌else◌}
use Rattle.std.specs.Int.{w64, cast_unsigned}
use Rattle.dl_field.specs.declared.params.Params.{Params}
use Rattle.dl_rows.specs.declared.registers.Registers.{Registers}
use Rattle.dl_rows.specs.declared.row.Row.{Row}
use Rattle.dl_rows.specs.declared.operation.Operation.{Operation}
use Rattle.dl_rows.specs.declared.operation.Operation.TheVariants as op
use Rattle.dl_rows.specs.Matrix.{appends_row, is_end}

-- at the start of each sequence
abbrev pub initial : Bool → Registers
initial default_is_stmt = record {
  address = 0;
  file = 1;
  line = 1;
  column = 0;
  isa = 0;
  discriminator = 0;
  op_index = 0;
  is_stmt = default_is_stmt;
  basic_block = false;
  prologue_end = false;
  epilogue_begin = false;
}

-- an operation advance, section 6.2.5.1
abbrev pub advanced : Params → Registers → ℕ → Registers
advanced h r by = record r {
  address =
      (r.address + h.minimum_instruction_length * ((r.op_index + by) / h.maximum_operations_per_instruction)) % 2 ^ 64;
  op_index = (r.op_index + by) % h.maximum_operations_per_instruction;
}

abbrev pub line_advanced : Registers → ℤ → Registers
line_advanced r by = record r { line = (r.line + cast_unsigned w64 by) % 2 ^ 64 }

-- after an operation, before what holds for one row alone is cleared
abbrev pub applied : Params → Registers → Operation → Registers
applied h r (op.Special b) =
    line_advanced (advanced h r ((b - h.opcode_base) / h.line_range))
    (h.line_base +ℤ pos ((b - h.opcode_base) % h.line_range))
applied h r op.Copy = r
applied h r (op.AdvancePc n) = advanced h r n
applied h r (op.AdvanceLine i) = line_advanced r i
applied h r (op.SetFile n) = record r { file = n }
applied h r (op.SetColumn n) = record r { column = n }
applied h r op.NegateStatement = record r { is_stmt = not r.is_stmt }
applied h r op.SetBasicBlock = record r { basic_block = true }
applied h r op.ConstAddPc = advanced h r ((255 - h.opcode_base) / h.line_range)
applied h r (op.FixedAdvancePc n) = record r { address = (r.address + n) % 2 ^ 64; op_index = 0 }
applied h r op.SetPrologueEnd = record r { prologue_end = true }
applied h r op.SetEpilogueBegin = record r { epilogue_begin = true }
applied h r (op.SetIsa n) = record r { isa = n }
applied h r op.EndSequence = r
applied h r (op.SetAddress n) = record r { address = n; op_index = 0 }
applied h r (op.SetDiscriminator n) = record r { discriminator = n }
applied h r op.Skipped = r

-- after a row
abbrev pub cleared : Registers → Registers
cleared r = record r { basic_block = false; prologue_end = false; epilogue_begin = false; discriminator = 0 }

-- the row, its address modulo 2^(8 * address_size)
abbrev pub row_of : Params → Registers → Bool → Row
row_of h r end = record {
  address = r.address % 2 ^ (8 * h.address_size);
  file = r.file;
  line = r.line;
  column = r.column;
  isa = r.isa;
  discriminator = r.discriminator;
  op_index = r.op_index;
  is_stmt = r.is_stmt;
  basic_block = r.basic_block;
  end_sequence = end;
  prologue_end = r.prologue_end;
  epilogue_begin = r.epilogue_begin;
}

-- the row that an operation appends, if any
abbrev pub made_by : Params → Registers → Operation → Option Row
made_by h r o = if appends_row o then Some (row_of h (applied h r o) (is_end o)) else None
