-- What the visits of a section up to some one tell of the operations of its current unit. DWARF 5, sections 6.2.2 and 6.2.5.1 to
-- 6.2.5.3.
use Rattle.std.specs.Prelude.{ℕ, Bool, true, false, ◌+◌, ◌*◌, ◌/◌, ◌%◌, ◌^◌, ◌==◌, max, nat_lt, if◌then◌else◌}
use Rattle.std.specs.Prelude.{List, [], ◌∷◌, ◌++◌, fold, length}
use Rattle.std.specs.Prelude.{Option, Some, None, option_to_list}
use Rattle.dl_num.specs.LebFront.{after_leb, leb_front}
use Rattle.dl_field.specs.declared.params.Params.{Params}
use Rattle.dl_rows.specs.declared.operation.Operation.{Operation}
use Rattle.dl_rows.specs.declared.operation.Operation.TheVariants as op
use Rattle.dl_rows.specs.Items.{a_byte, an_operation}
use Rattle.dl_rows.specs.Matrix.{advance}
use Rattle.dl_look.specs.declared.place.Place.{Place}
use Rattle.dl_sections.specs.Section.{Visit, of_header, of_item}
use Rattle.dl_findings.specs.declared.finding.Opcode.{Opcode}
use Rattle.dl_findings.specs.declared.finding.Opcode.TheVariants as opcode
use Rattle.dl_operation_rules.specs.declared.advance.Moved.{Moved}

-- ---- the opcode of an operation, by its bytes

abbrev pub extended_in : List ℕ → Option Opcode
extended_in [] = None
extended_in (b ∷ operand) = Some (opcode.Extended b)

-- an extended opcode stands after a zero byte and a length in LEB128 (section 6.2.5.3)
abbrev pub opcode_in : List ℕ → Option Opcode
opcode_in [] = None
opcode_in (b ∷ w) = if b == 0 then extended_in (after_leb w) else Some (opcode.Standard b)

-- where it is passed over
abbrev pub passed_over : Operation → List ℕ → Option Opcode
passed_over op.Skipped bytes = opcode_in bytes
passed_over o bytes = None

-- ---- the numbers in LEB128 of an operation, by its bytes

-- how many bytes the longest of some numbers has that stand back to back, where so many bytes of the first came before
abbrev pub longest_after : (come : ℕ) → List ℕ → ℕ
longest_after come [] = come
longest_after come (b ∷ w) = if nat_lt b 128 then max (come + 1) (longest_after 0 w) else longest_after (come + 1) w

-- the operand of DW_LNE_set_discriminator, extended opcode 4, is one
abbrev pub longest_operand : List ℕ → ℕ
longest_operand [] = 0
longest_operand (b ∷ operand) = if b == 4 then longest_after 0 operand else 0

-- such are the operands of standard opcodes (the two bytes of DW_LNS_fixed_advance_pc count as some, which are never long) and
-- the length of an extended one. Sections 6.2.5.2 and 6.2.5.3
abbrev pub longest_number : List ℕ → ℕ
longest_number [] = 0
longest_number (b ∷ w) =
    if b == 0 then max (length (leb_front w)) (longest_operand (after_leb w)) else longest_after 0 w

-- ---- the registers address and op_index

-- after an operation advance (section 6.2.5.1), the address not yet reduced to the size of one
abbrev pub advanced : Params → Place → (by : ℕ) → Moved
advanced p at by = record {
  address = at.address + p.minimum_instruction_length * ((at.op_index + by) / p.maximum_operations_per_instruction);
  op_index = (at.op_index + by) % p.maximum_operations_per_instruction;
}

-- after an operation
abbrev pub moved_by : Params → Place → Operation → Moved
moved_by p at (op.Special b) = advanced p at (advance p (op.Special b))
moved_by p at (op.AdvancePc n) = advanced p at n
moved_by p at op.ConstAddPc = advanced p at (advance p op.ConstAddPc)
moved_by p at (op.FixedAdvancePc n) = record { address = at.address + n; op_index = 0 }
moved_by p at (op.SetAddress n) = record { address = n; op_index = 0 }
moved_by p at op.EndSequence = record { address = 0; op_index = 0 }
moved_by p at o = record { address = at.address; op_index = at.op_index }

abbrev pub reduced : Params → Moved → Place
reduced p moved = record { address = moved.address % 2 ^ (8 * p.address_size); op_index = moved.op_index }

-- it sets them
abbrev pub moves : Operation → Bool
moves (op.Special b) = true
moves (op.AdvancePc n) = true
moves op.ConstAddPc = true
moves (op.FixedAdvancePc n) = true
moves (op.SetAddress n) = true
moves op.EndSequence = true
moves o = false

-- what they are then
abbrev pub place_after : Params → Place → Operation → Place
place_after p at o = if moves o then reduced p (moved_by p at o) else at

-- the first operation of an instruction
abbrev pub at_address : ℕ → Place
at_address address = record { address = address; op_index = 0 }

-- ---- what is seen of the current unit

pub record UnitSeen : Type 0 where
  -- the bytes since the last operation
  pub bytes : List ℕ
  -- the registers address and op_index
  pub place : Place
  -- the opcodes that were passed over
  pub opcodes : List Opcode

-- bytes more
abbrev pub with_bytes : UnitSeen → List ℕ → UnitSeen
with_bytes s bytes = record s { bytes = s.bytes ++ bytes }

-- at the first operation of a unit
abbrev pub nothing_seen : UnitSeen
nothing_seen = record { bytes = []; place = record { address = 0; op_index = 0 }; opcodes = [] }

abbrev pub seen_with : UnitSeen → Visit → UnitSeen
seen_with s (of_header offset lengths h) = nothing_seen
seen_with s (of_item (a_byte b)) = with_bytes s (b ∷ [])
seen_with s (of_item (an_operation h o)) = record {
  bytes = [];
  place = place_after h.params s.place o;
  opcodes = s.opcodes ++ option_to_list (passed_over o s.bytes);
}
seen_with s visit = s

abbrev pub seen : List Visit → UnitSeen
seen visits = fold seen_with nothing_seen visits
