-- The unit that is written for a header and rows, and what isn't written. DWARF 5, section 6.2.
use Rattle.std.specs.Prelude.{ℕ, ◌+◌, ◌*◌, ◌^◌, Bool, ◌&&◌, List, [], ◌∷◌, ◌++◌, length, Option, Some, None, nat_lt}
use Rattle.std.specs.Prelude.{◌==◌, if◌then◌else◌}
use Rattle.std.specs.List.{flat_map}
use Rattle.std.specs.Option.{option_or}
use Rattle.dl_num.specs.declared.fixed.Order.{Order}
use Rattle.dl_num.specs.declared.fixed.Order.TheVariants.{Little}
use Rattle.dl_field.specs.declared.params.Params.{Params}
use Rattle.dl_field.specs.HeaderData.{HeaderData}
use Rattle.dl_head.specs.Written.{header_bytes, is_within_limit}
use Rattle.dl_rows.specs.declared.row.Row.{Row}
use Rattle.dl_rows.specs.declared.operation.Operation.{Operation}
use Rattle.dl_emit.specs.declared.fault.EmitFault.{EmitFault}
use Rattle.dl_emit.specs.declared.fault.EmitFault.TheVariants as fault
use Rattle.dl_emit.specs.OperationBytes.{operation_bytes}
use Rattle.dl_emit.specs.Program.{operations}

-- the spellings of operations, joined
abbrev pub operations_bytes : Order → Params → List Operation → List ℕ
operations_bytes order h os = flat_map (operation_bytes order h.address_size) os

abbrev pub program_bytes : Order → Params → List Row → List ℕ
program_bytes order h rows = operations_bytes order h (operations h rows)

-- the same in either order
abbrev pub program_len : Params → List Row → ℕ
program_len h rows = length (program_bytes Little h rows)

-- the header, and the program of the rows
abbrev pub unit_of : Order → HeaderData → List Row → List ℕ
unit_of order h rows = header_bytes order h (program_len h.params rows) ++ program_bytes order h.params rows

-- ---- what isn't written

-- the row can be one of a unit with these params
abbrev pub is_in_range : Params → Row → Bool
is_in_range h r = nat_lt r.op_index h.maximum_operations_per_instruction && nat_lt r.address (2 ^ (8 * h.address_size))

-- the least place, counted from i on, of a row that is out of range
abbrev pub out_of_range : Params → ℕ → List Row → Option EmitFault
out_of_range h i [] = None
out_of_range h i (r ∷ rows) = if is_in_range h r then out_of_range h (i + 1) rows else Some (fault.RowRange i)

abbrev pub unless : Bool → EmitFault → Option EmitFault
unless b fault = if b then None else Some fault

-- the first reason against the params or the rows
abbrev pub rows_refusal : Params → List Row → Option EmitFault
rows_refusal h rows =
    option_or (unless (h.version == 5) fault.Version)
    (option_or (unless (h.opcode_base == 13) fault.OpcodeBase) (out_of_range h 0 rows))

-- the first reason for which the unit isn't written
abbrev pub refusal : HeaderData → List Row → Option EmitFault
refusal h rows =
    option_or (rows_refusal h.params rows) (unless (is_within_limit h (program_len h.params rows)) fault.TooLong)
