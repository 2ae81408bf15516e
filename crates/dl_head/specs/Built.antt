-- Which headers can be built, and what is wrong with the others. DWARF 5, sections 6.2.4 and 6.2.5.2; DWARF 2 to 4,
-- section 6.2.4.
use Rattle.std.specs.Prelude.{ℕ, ◌+◌, Bool, ◌&&◌, ◌||◌, List, [], ◌∷◌, length, Option, Some, None, nat_lt, ◌==◌}
use Rattle.std.specs.Prelude.{if◌then◌else◌, is_none}
use Rattle.std.specs.Option.{option_map, option_or}
use Rattle.dl_field.specs.declared.params.Params.{Params}
use Rattle.dl_head.specs.declared.fault.ParamFault.{ParamFault}
use Rattle.dl_head.specs.declared.fault.ParamFault.TheVariants as param
use Rattle.dl_num.specs.Fixed.{is_number_size}
use Rattle.dl_table.specs.Built.{same_format}
use Rattle.dl_table.specs.TableData.{TableData}
use Rattle.dl_field.specs.HeaderData.{HeaderData}
use Rattle.dl_field.specs.Layout.{standard_lengths, objection, opcode_length}

-- the least opcode, counted from `opcode` on, that may not have its number of operands, section 6.2.5.2
abbrev pub wrong_length : ℕ → List ℕ → Option ℕ
wrong_length opcode [] = None
wrong_length opcode (n ∷ lengths) =
    if is_none (objection (opcode_length opcode) n) then wrong_length (opcode + 1) lengths else Some opcode

abbrev pub unless : Bool → ParamFault → Option ParamFault
unless b fault = if b then None else Some fault

-- the versions of headers
abbrev pub is_version : ℕ → Bool
is_version v = (v == 2) || ((v == 3) || ((v == 4) || (v == 5)))

-- whether an instruction of version v may have n operations at most: versions 2 and 3 have no field for that
abbrev pub are_operations : ℕ → ℕ → Bool
are_operations v n = if nat_lt v 4 then n == 1 else nat_lt 0 n

-- the first reason for which the parts make no header
abbrev pub param_fault : Params → TableData → TableData → Option ParamFault
param_fault p directories files =
    option_or (unless (is_version p.version) param.Version)
    (option_or (unless (is_number_size p.address_size) param.AddressSize)
    (option_or (unless (are_operations p.version p.maximum_operations_per_instruction) param.MaxOps)
    (option_or (unless (nat_lt 0 p.line_range) param.LineRange)
    (option_or (unless (length p.lengths.items + 1 == p.opcode_base) param.OpcodeBase)
    (option_or (option_map param.StandardLength (wrong_length 1 p.lengths.items))
    (unless (same_format directories.format p.format && same_format files.format p.format) param.TableFormat))))))

-- the header with opcode_base 13 and the lengths of section 6.2.5.2
abbrev pub with_standard_opcodes : HeaderData → HeaderData
with_standard_opcodes h =
    record h { params = record (h.params) { opcode_base = 13; lengths = record { items = standard_lengths } } }
