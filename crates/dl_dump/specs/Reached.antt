-- How far the program of a unit has come, whose operations are shown. DWARF 5, sections 6.2.4 and 6.2.5.
use Rattle.std.specs.Prelude.{ℕ, ◌+◌, ◌-◌, ◌%◌, ◌^◌, min, nat_lt, ◌==◌, if◌then◌else◌}
use Rattle.dl_table.specs.declared.form.Format.{Format}
use Rattle.dl_table.specs.declared.form.Format.TheVariants.{Dwarf32, Dwarf64}
use Rattle.dl_field.specs.HeaderData.{HeaderData}
use Rattle.dl_field.specs.declared.params.Params.{Params}
use Rattle.dl_head.specs.declared.header.HeaderLengths.{HeaderLengths}
use Rattle.dl_rows.specs.declared.operation.Operation.{Operation}
use Rattle.dl_rows.specs.declared.operation.Operation.TheVariants as op
use Rattle.dl_rows.specs.Matrix.{advance}
use Rattle.dl_dump.specs.declared.reached.Opcode.{Opcode}
use Rattle.dl_dump.specs.declared.reached.Opcode.TheVariants as opcode
use Rattle.dl_dump.specs.declared.reached.Reached.{Reached}

-- ---- the opcode of an operation whose bytes come one after the other. Sections 6.2.5.2 and 6.2.5.3

-- a zero byte begins an extended opcode: its length follows, in LEB128, and then its number
abbrev pub opcode_with : Opcode → ℕ → Opcode
opcode_with opcode.Unread b = if b == 0 then opcode.Length else opcode.Single b
opcode_with opcode.Length b = if nat_lt b 128 then opcode.Number else opcode.Length
opcode_with opcode.Number b = opcode.Extended b
opcode_with known b = known

-- ---- where a program begins

-- unit_length, version and header_length
abbrev pub fixed_sizes : Format → ℕ
fixed_sizes Dwarf32 = 10
fixed_sizes Dwarf64 = 22

-- with address_size and segment_selector_size from version 5 on; header_length counts from there on. Section 6.2.4
abbrev pub program_offset : (unit header_length : ℕ) → Params → ℕ
program_offset unit header_length p =
    (unit + (if p.version == 5 then fixed_sizes p.format + 2 else fixed_sizes p.format)) + header_length

-- ---- op_index

-- the register after an operation. Section 6.2.5.1
abbrev pub op_index_with : Params → ℕ → Operation → ℕ
op_index_with p i (op.Special b) = (i + advance p (op.Special b)) % p.maximum_operations_per_instruction
op_index_with p i (op.AdvancePc n) = (i + n) % p.maximum_operations_per_instruction
op_index_with p i op.ConstAddPc = (i + advance p op.ConstAddPc) % p.maximum_operations_per_instruction
op_index_with p i (op.FixedAdvancePc n) = 0
op_index_with p i (op.SetAddress n) = 0
op_index_with p i op.EndSequence = 0
op_index_with p i o = i

-- ---- a unit

abbrev pub before_units : Reached
before_units = record { unit = 0; offset = 0; opcode = opcode.Unread; op_index = 0 }

-- at the first operation of the unit at that offset of the section, as far as 64 bits hold its place
abbrev pub at_program : (unit : ℕ) → HeaderLengths → HeaderData → Reached
at_program unit lengths h = record {
  unit = unit;
  offset = min (program_offset unit lengths.header_length h.params) (2 ^ 64 - 1);
  opcode = opcode.Unread;
  op_index = 0;
}

-- one byte further on
abbrev pub with_byte : Reached → ℕ → Reached
with_byte at b = record at { offset = min (at.offset + 1) (2 ^ 64 - 1); opcode = opcode_with at.opcode b }

-- after an operation
abbrev pub with_operation : Params → Reached → Operation → Reached
with_operation p at o = record at { opcode = opcode.Unread; op_index = op_index_with p at.op_index o }
