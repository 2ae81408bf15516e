-- What is kept of the bytes of an operation, and of the operations of a unit. No promise rests on this file.
use Rattle.std.specs.Prelude.{◌≡◌, ℕ, Bool, true, false, not, ◌==◌, ◌+◌, max, nat_lt, if◌then◌else◌, List, fold}
use Rattle.std.specs.Prelude.{Option, Some, None, slice_index_or}
use Rattle.std.specs.List.{list_any}
use Rattle.dl_findings.specs.Counting.{at_most_64_bits}
use Rattle.dl_findings.specs.declared.finding.Opcode.{Opcode}
use Rattle.dl_findings.specs.declared.finding.Opcode.TheVariants as opcode
use Rattle.dl_operation_rules.specs.Judging.{is_same}
use Rattle.dl_operation_rules.specs.Operations.{UnitSeen}
use Rattle.dl_operation_rules.specs.declared.advance.Moved.{Moved}
use Rattle.dl_operation_rules.specs.declared.byte_set.ByteSet.{ByteSet}
use Rattle.dl_operation_rules.specs.declared.operation_read.OpcodeRead.{OpcodeRead}
use Rattle.dl_operation_rules.specs.declared.operation_read.OpcodeRead.TheVariants as read
use Rattle.dl_operation_rules.specs.declared.operation_read.OperationRead.{OperationRead}
use Rattle.dl_operation_rules.specs.declared.operations.Operations.{Operations}

-- a zero byte begins an extended opcode: its length follows, in LEB128, and then its number
abbrev pub opcode_with : OpcodeRead → ℕ → OpcodeRead
opcode_with read.Unread b = if b == 0 then read.Length else read.Single b
opcode_with read.Length b = if nat_lt b 128 then read.Number else read.Length
opcode_with read.Number b = read.Extended b
opcode_with known b = known

-- the next byte is one of a number in LEB128
abbrev pub is_in_number : OpcodeRead → Bool
is_in_number read.Length = true
is_in_number (read.Single b) = true
is_in_number (read.Extended b) = b == 4
is_in_number other = false

-- more bytes say nothing
abbrev pub is_settled : OpcodeRead → Bool
is_settled (read.Extended b) = not (b == 4)
is_settled other = false

-- a byte has come
abbrev pub has_begun : OpcodeRead → Bool
has_begun read.Unread = false
has_begun other = true

abbrev pub known_opcode : OpcodeRead → Option Opcode
known_opcode (read.Single b) = Some (opcode.Standard b)
known_opcode (read.Extended b) = Some (opcode.Extended b)
known_opcode other = None

-- a byte of a number more
abbrev pub counted : OperationRead → ℕ → OperationRead
counted r b = record {
  opcode = opcode_with r.opcode b;
  begun = if nat_lt b 128 then 0 else at_most_64_bits (r.begun + 1);
  longest = max r.longest (at_most_64_bits (r.begun + 1));
}

abbrev pub read_with : OperationRead → ℕ → OperationRead
read_with r b = if is_in_number r.opcode then counted r b else record r { opcode = opcode_with r.opcode b }

abbrev pub unread : OperationRead
unread = record { opcode = read.Unread; begun = 0; longest = 0 }

-- of the bytes of an operation
abbrev pub operation_read : List ℕ → OperationRead
operation_read bytes = fold read_with unread bytes

abbrev pub has_byte : ByteSet → ℕ → Bool
has_byte bytes b = slice_index_or bytes.has b false

abbrev pub has_passed : Operations → Opcode → Bool
has_passed operations (opcode.Standard b) = has_byte operations.standard b
has_passed operations (opcode.Extended b) = has_byte operations.extended b

-- they are what is seen
pub record Knows (operations : Operations) (s : UnitSeen) : Type 0 where
  pub read : operations.read ≡ operation_read s.bytes
  pub place : operations.place ≡ s.place
  pub passed : (o : Opcode) → has_passed operations o ≡ list_any (is_same o) s.opcodes

-- ---- where an operation leads

abbrev pub to : (address op_index : ℕ) → Moved
to address op_index = record { address = address; op_index = op_index }
