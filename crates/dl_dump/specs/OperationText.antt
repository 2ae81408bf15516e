-- The line of an operation: its offset in the section, its bytes, its name and its operands. DWARF 5, sections 6.2.5.1 to
-- 6.2.5.3.
use Rattle.std.specs.Prelude.{ℕ, ◌+◌, ◌*◌, ◌/◌, ℤ, pos, ◌-ℤ◌, ◌&&◌, nat_lt, ◌==◌, if◌then◌else◌, List, [], ◌++◌, codes}
use Rattle.std.specs.Int.{w64, cast_signed, cast_unsigned}
use Rattle.dl_field.specs.declared.params.Params.{Params}
use Rattle.dl_rows.specs.declared.operation.Operation.{Operation}
use Rattle.dl_rows.specs.declared.operation.Operation.TheVariants as op
use Rattle.dl_rows.specs.Matrix.{advance, line_step}
use Rattle.dl_print.specs.Digits.{hexadecimal, hexadecimal_of}
use Rattle.dl_print.specs.HeaderFields.{number_text, signed_text}
use Rattle.dl_dump.specs.declared.reached.Opcode.{Opcode}
use Rattle.dl_dump.specs.declared.reached.Opcode.TheVariants as opcode
use Rattle.dl_dump.specs.declared.reached.Reached.{Reached}
use Rattle.dl_dump.specs.Reached.{op_index_with}

-- ---- bytes

-- where a line begins
unfoldable pub operation_start : (offset : ℕ) → List ℕ
operation_start offset = codes "operation 0x" ++ hexadecimal offset ++ codes " "

-- before the first byte of an operation
abbrev pub start_text : Opcode → (offset : ℕ) → List ℕ
start_text opcode.Unread offset = operation_start offset
start_text other offset = []

abbrev pub byte_text : Reached → ℕ → List ℕ
byte_text at b = start_text at.opcode at.offset ++ hexadecimal_of 2 b

-- ---- names and operands

-- a name, and an operand that is a number
unfoldable pub operand_text : (name : List ℕ) → ℕ → List ℕ
operand_text name n = name ++ number_text n

-- and an operand that may be below zero
unfoldable pub signed_operand_text : (name : List ℕ) → ℤ → List ℕ
signed_operand_text name z = name ++ signed_text z

-- what a special opcode adds to the address. Section 6.2.5.1
abbrev pub address_step : Params → (op_index opcode : ℕ) → ℕ
address_step p i b =
    p.minimum_instruction_length * ((i + advance p (op.Special b)) / p.maximum_operations_per_instruction)

-- a special opcode, and what it adds to address, op_index and line
unfoldable pub special_text : Params → (op_index opcode : ℕ) → List ℕ
special_text p i b =
    codes " special 0x" ++ hexadecimal b ++ operand_text (codes " address") (address_step p i b)
    ++ signed_operand_text (codes " op_index") (pos (op_index_with p i (op.Special b)) -ℤ pos i)
    ++ signed_operand_text (codes " line") (line_step p (op.Special b))

-- the number of an opcode that is passed over
abbrev pub number_of : (name : List ℕ) → ℕ → List ℕ
number_of name b = name ++ (codes " 0x" ++ hexadecimal b)

-- version 4 and those before it have DW_LNE_define_file (DWARF 4, section 6.2.5.3)
unfoldable pub extended_text : (version opcode : ℕ) → List ℕ
extended_text version b =
    if (b == 3) && nat_lt version 5 then codes " DW_LNE_define_file" else number_of (codes " DW_LNE_unknown") b

abbrev pub unknown_text : (version : ℕ) → Opcode → List ℕ
unknown_text version (opcode.Single b) = number_of (codes " DW_LNS_unknown") b
unknown_text version (opcode.Extended b) = extended_text version b
unknown_text version other = codes " unknown"

-- a number as one of 64 bits, which the operand of an operation is
abbrev pub as_64_bits : ℤ → ℤ
as_64_bits i = cast_signed w64 (cast_unsigned w64 i)

-- the name of an operation and its operands
abbrev pub name_text : Params → Reached → Operation → List ℕ
name_text p at (op.Special b) = special_text p at.op_index b
name_text p at op.Copy = codes " DW_LNS_copy"
name_text p at (op.AdvancePc n) = operand_text (codes " DW_LNS_advance_pc") n
name_text p at (op.AdvanceLine i) = signed_operand_text (codes " DW_LNS_advance_line") (as_64_bits i)
name_text p at (op.SetFile n) = operand_text (codes " DW_LNS_set_file") n
name_text p at (op.SetColumn n) = operand_text (codes " DW_LNS_set_column") n
name_text p at op.NegateStatement = codes " DW_LNS_negate_stmt"
name_text p at op.SetBasicBlock = codes " DW_LNS_set_basic_block"
name_text p at op.ConstAddPc = codes " DW_LNS_const_add_pc"
name_text p at (op.FixedAdvancePc n) = operand_text (codes " DW_LNS_fixed_advance_pc") n
name_text p at op.SetPrologueEnd = codes " DW_LNS_set_prologue_end"
name_text p at op.SetEpilogueBegin = codes " DW_LNS_set_epilogue_begin"
name_text p at (op.SetIsa n) = operand_text (codes " DW_LNS_set_isa") n
name_text p at op.EndSequence = codes " DW_LNE_end_sequence"
name_text p at (op.SetAddress n) = codes " DW_LNE_set_address " ++ (codes "0x" ++ hexadecimal_of 16 n)
name_text p at (op.SetDiscriminator n) = operand_text (codes " DW_LNE_set_discriminator") n
name_text p at op.Skipped = unknown_text p.version at.opcode

-- the rest of its line
abbrev pub operation_end : Params → Reached → Operation → List ℕ
operation_end p at o = name_text p at o ++ codes "\n"
