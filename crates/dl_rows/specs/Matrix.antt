-- The rows of a program: sums and last settings over its operations. DWARF 5, section 6.2.2.
use Rattle.std.specs.Prelude.{ℕ, ◌+◌, ◌-◌, ◌*◌, ◌/◌, ◌%◌, ◌^◌, ◌+ℤ◌, ℤ, pos, Bool, true, false, not, if◌then◌else◌}
use Rattle.std.specs.Prelude.{List, [], ◌∷◌, ◌++◌, Option, Some, None, unwrap_or, sum_by, fold, unsigned_abs, ◌==◌}
use Rattle.std.specs.Option.{option_or}
use Rattle.std.specs.List.{after_last, list_any}
use Rattle.std.specs.Int.{int_rem_euclid}
use Rattle.dl_field.specs.declared.params.Params.{Params}
use Rattle.dl_rows.specs.declared.row.Row.{Row}
use Rattle.dl_rows.specs.declared.operation.Operation.{Operation}
use Rattle.dl_rows.specs.declared.operation.Operation.TheVariants as op

abbrev pub is_end : Operation → Bool
is_end op.EndSequence = true
is_end o = false

-- the operation appends a row
abbrev pub appends_row : Operation → Bool
appends_row (op.Special b) = true
appends_row op.Copy = true
appends_row op.EndSequence = true
appends_row o = false

-- ---- the scope of a setting

-- the operations of the final one's sequence, up to it
abbrev pub sequence : List Operation → Operation → List Operation
sequence front final = after_last is_end front ++ final ∷ []

-- the operations since the last row, up to the final one
abbrev pub fresh : List Operation → Operation → List Operation
fresh front final = after_last appends_row front ++ final ∷ []

-- what the last operation that sets it sets
abbrev pub last_set : (Operation → Option ℕ) → List Operation → Option ℕ
last_set sets [] = None
last_set sets (o ∷ os) = option_or (last_set sets os) (sets o)

-- ---- place

-- the operation advance of an operation
abbrev pub advance : Params → Operation → ℕ
advance h (op.Special b) = (b - h.opcode_base) / h.line_range
advance h (op.AdvancePc n) = n
advance h op.ConstAddPc = (255 - h.opcode_base) / h.line_range
advance h o = 0

abbrev pub set_address : Operation → Option ℕ
set_address (op.SetAddress n) = Some n
set_address o = None

abbrev pub is_address : Operation → Bool
is_address (op.SetAddress n) = true
is_address o = false

abbrev pub is_fixed_add : Operation → Bool
is_fixed_add (op.FixedAdvancePc n) = true
is_fixed_add o = false

abbrev pub fixed_add : Operation → ℕ
fixed_add (op.FixedAdvancePc n) = n
fixed_add o = 0

abbrev pub onto_first : ℕ → List ℕ → List ℕ
onto_first a [] = a ∷ []
onto_first a (x ∷ xs) = (a + x) ∷ xs

-- the operations are cut at each FixedAdd: the sum of the advances in each part
abbrev pub parts : Params → List Operation → List ℕ
parts h [] = 0 ∷ []
parts h (o ∷ os) = if is_fixed_add o then 0 ∷ parts h os else onto_first (advance h o) (parts h os)

abbrev pub last_part : List ℕ → ℕ
last_part [] = 0
last_part (x ∷ []) = x
last_part (x ∷ y ∷ ys) = last_part (y ∷ ys)

-- the operations after the last set_address
abbrev pub moves : List Operation → List Operation
moves s = after_last is_address s

abbrev pub address : Params → List Operation → ℕ
address h s =
    unwrap_or (last_set set_address s) 0 + sum_by fixed_add (moves s) + h.minimum_instruction_length * sum_by
    (λ a. a / h.maximum_operations_per_instruction) (parts h (moves s))

abbrev pub op_index : Params → List Operation → ℕ
op_index h s = last_part (parts h (moves s)) % h.maximum_operations_per_instruction

-- ---- the other columns

abbrev pub line_step : Params → Operation → ℤ
line_step h (op.AdvanceLine i) = i
line_step h (op.Special b) = h.line_base +ℤ pos ((b - h.opcode_base) % h.line_range)
line_step h o = pos 0

-- 1 and the sum of the steps
abbrev pub line : Params → List Operation → ℤ
line h s = fold (λ z o. z +ℤ line_step h o) (pos 1) s

abbrev pub set_file : Operation → Option ℕ
set_file (op.SetFile n) = Some n
set_file o = None

abbrev pub set_column : Operation → Option ℕ
set_column (op.SetColumn n) = Some n
set_column o = None

abbrev pub set_isa : Operation → Option ℕ
set_isa (op.SetIsa n) = Some n
set_isa o = None

abbrev pub set_discriminator : Operation → Option ℕ
set_discriminator (op.SetDiscriminator n) = Some n
set_discriminator o = None

-- turned over once for each NegateStatement
abbrev pub turned : Bool → Operation → Bool
turned b op.NegateStatement = not b
turned b o = b

abbrev pub is_block : Operation → Bool
is_block op.SetBasicBlock = true
is_block o = false

abbrev pub is_prologue : Operation → Bool
is_prologue op.SetPrologueEnd = true
is_prologue o = false

abbrev pub is_epilogue : Operation → Bool
is_epilogue op.SetEpilogueBegin = true
is_epilogue o = false

-- a whole number modulo 2^k
abbrev pub modulo : ℤ → ℕ → ℕ
modulo z n = unsigned_abs (int_rem_euclid z (pos n))

-- the row at the final operation: s is its sequence, f the operations since the last row
abbrev pub row_from : Params → List Operation → List Operation → Bool → Row
row_from h s f end = record {
  address = address h s % 2 ^ (8 * h.address_size);
  op_index = op_index h s;
  file = unwrap_or (last_set set_file s) 1;
  line = modulo (line h s) (2 ^ 64);
  column = unwrap_or (last_set set_column s) 0;
  is_stmt = fold turned (not (h.default_is_stmt == 0)) s;
  basic_block = list_any is_block f;
  end_sequence = end;
  prologue_end = list_any is_prologue f;
  epilogue_begin = list_any is_epilogue f;
  isa = unwrap_or (last_set set_isa s) 0;
  discriminator = unwrap_or (last_set set_discriminator f) 0;
}

-- the row of the operations in front and the final one
abbrev pub row : Params → List Operation → Operation → Row
row h front final = row_from h (sequence front final) (fresh front final) (is_end final)

-- the rows of ps, where those in front stand before them
abbrev pub rows_after : Params → List Operation → List Operation → List Row
rows_after h front [] = []
rows_after h front (o ∷ os) =
    if appends_row o then row h front o ∷ rows_after h (front ++ o ∷ []) os else rows_after h (front ++ o ∷ []) os

-- one row for each prefix that ends in an operation that appends one
abbrev pub matrix : Params → List Operation → List Row
matrix h p = rows_after h [] p
