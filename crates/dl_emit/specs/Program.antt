-- The operations that are written for rows, those of each from the row before it. DWARF 5, sections 6.2.2 and 6.2.5.
use Rattle.std.specs.Prelude.{ℕ, ◌+◌, ◌-◌, ◌*◌, ◌/◌, ◌%◌, ◌^◌, Bool, true, false, not, ◌&&◌, List, [], ◌∷◌, ◌++◌, ℤ}
use Rattle.std.specs.Prelude.{pos, negsuc, ◌-ℤ◌, Option, Some, None, nat_lt, nat_le, ◌==◌, if◌then◌else◌}
use Rattle.std.specs.Int.{w64, cast_signed}
use Rattle.std.specs.Option.{option_and_then}
use Rattle.dl_field.specs.declared.params.Params.{Params}
use Rattle.dl_rows.specs.declared.row.Row.{Row}
use Rattle.dl_rows.specs.declared.operation.Operation.{Operation}
use Rattle.dl_rows.specs.declared.operation.Operation.TheVariants as op

-- what the first row of a sequence starts from, section 6.2.2
abbrev pub start : Params → Row
start h = record {
  address = 0;
  file = 1;
  line = 1;
  column = 0;
  isa = 0;
  discriminator = 0;
  op_index = 0;
  is_stmt = not (h.default_is_stmt == 0);
  basic_block = false;
  end_sequence = false;
  prologue_end = false;
  epilogue_begin = false;
}

abbrev pub when : Bool → Operation → List Operation
when b o = if b then o ∷ [] else []

abbrev pub differs : Bool → Bool → Bool
differs a b = if a then not b else b

-- what holds to the end of the sequence, where it isn't as before
abbrev pub settings : Row → Row → List Operation
settings before r =
    when (not (r.file == before.file)) (op.SetFile r.file)
    ++ when (not (r.column == before.column)) (op.SetColumn r.column)
    ++ when (differs r.is_stmt before.is_stmt) op.NegateStatement
    ++ when (not (r.isa == before.isa)) (op.SetIsa r.isa)

-- what holds for the row alone
abbrev pub marks : Row → List Operation
marks r =
    when (not (r.discriminator == 0)) (op.SetDiscriminator r.discriminator)
    ++ when r.basic_block op.SetBasicBlock
    ++ when r.prologue_end op.SetPrologueEnd
    ++ when r.epilogue_begin op.SetEpilogueBegin

-- ---- the step from a row to the next one of its sequence, section 6.2.5.1

-- the least number of instructions of `minimum` bytes that are `size` bytes long together, if there is one
abbrev pub instructions : ℕ → ℕ → Option ℕ
instructions minimum size =
    if minimum == 0 then (if size == 0 then Some 0 else None) else
    if size % minimum == 0 then Some (size / minimum) else None

-- the operation advance by `count` instructions, and from one op_index to another
abbrev pub advance_by : Params → ℕ → ℕ → ℕ → Option ℕ
advance_by h from to count =
    let end = count * h.maximum_operations_per_instruction + to in
    if nat_le from end && nat_lt (end - from) (2 ^ 64) then Some (end - from) else None

-- the operation advance from a row to the next, if there is one
abbrev pub advance : Params → Row → Row → Option ℕ
advance h before r =
    if nat_le before.address r.address
    then option_and_then (advance_by h before.op_index r.op_index)
    (instructions h.minimum_instruction_length (r.address - before.address))
    else None

-- from one line to another modulo 2^64, as a number from -2^63 to 2^63 - 1
abbrev pub line_advance : ℕ → ℕ → ℤ
line_advance from to = cast_signed w64 ((to + (2 ^ 64 - from)) % 2 ^ 64)

-- the special opcode for a line that is so much above line_base, and an operation advance
abbrev pub special_above : Params → ℤ → ℕ → Option ℕ
special_above h (negsuc n) k = None
special_above h (pos n) k =
    let opcode = n + h.line_range * k + 13 in
    if nat_lt n h.line_range && nat_le opcode 255 then Some opcode else None

abbrev pub special : Params → ℤ → ℕ → Option ℕ
special h line k = special_above h (line -ℤ h.line_base) k

-- ---- the row

abbrev pub is_zero : ℤ → Bool
is_zero (pos n) = n == 0
is_zero (negsuc n) = false

-- a line advance and an operation advance that aren't 0
abbrev pub advances : ℤ → ℕ → List Operation
advances line k = when (not (is_zero line)) (op.AdvanceLine line) ++ when (not (k == 0)) (op.AdvancePc k)

abbrev pub special_or_copy : ℤ → ℕ → Option ℕ → List Operation
special_or_copy line k (Some opcode) = op.Special opcode ∷ []
special_or_copy line k None = advances line k ++ op.Copy ∷ []

-- a line advance and an operation advance, and the row
abbrev pub appended : Params → Bool → ℤ → ℕ → List Operation
appended h true line k = advances line k ++ op.EndSequence ∷ []
appended h false line k = special_or_copy line k (special h line k)

-- the same where there is an operation advance; else the address is set
abbrev pub placed : Params → Row → ℤ → Option ℕ → List Operation
placed h r line (Some k) = appended h r.end_sequence line k
placed h r line None = op.SetAddress r.address ∷ appended h r.end_sequence line r.op_index

-- the operations of a row, the row before it in its sequence being given
abbrev pub row_operations : Params → Option Row → Row → List Operation
row_operations h None r = settings (start h) r ++ marks r ++ placed h r (line_advance 1 r.line) None
row_operations h (Some before) r =
    settings before r ++ marks r ++ placed h r (line_advance before.line r.line) (advance h before r)

-- the row before, for the row after r
abbrev pub kept : Row → Option Row
kept r = if r.end_sequence then None else Some r

abbrev pub operations_from : Params → Option Row → List Row → List Operation
operations_from h before [] = []
operations_from h before (r ∷ rows) = row_operations h before r ++ operations_from h (kept r) rows

-- the program of the rows
abbrev pub operations : Params → List Row → List Operation
operations h rows = operations_from h None rows
