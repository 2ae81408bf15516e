-- The one spelling in which an operation is written: shortest numbers. DWARF 5, sections 6.2.5.1 to 6.2.5.3.
use Rattle.std.specs.Prelude.{ℕ, List, [], ◌∷◌, ◌++◌, length}
use Rattle.dl_num.specs.declared.fixed.Order.{Order}
use Rattle.dl_num.specs.Fixed.{fixed_bytes}
use Rattle.dl_num.specs.Shortest.{shortest_uleb, shortest_sleb}
use Rattle.dl_rows.specs.declared.operation.Operation.{Operation}
use Rattle.dl_rows.specs.declared.operation.Operation.TheVariants as op

-- an extended opcode with its operand: a zero byte, their length, they themselves
abbrev pub extended : List ℕ → List ℕ
extended body = 0 ∷ shortest_uleb (length body) ++ body

-- an operation, by how many bytes an address has; const_add_pc, fixed_advance_pc and unknown opcodes aren't written
abbrev pub operation_bytes : Order → ℕ → Operation → List ℕ
operation_bytes order address_size (op.Special b) = b ∷ []
operation_bytes order address_size op.Copy = 1 ∷ []
operation_bytes order address_size (op.AdvancePc n) = 2 ∷ shortest_uleb n
operation_bytes order address_size (op.AdvanceLine i) = 3 ∷ shortest_sleb i
operation_bytes order address_size (op.SetFile n) = 4 ∷ shortest_uleb n
operation_bytes order address_size (op.SetColumn n) = 5 ∷ shortest_uleb n
operation_bytes order address_size op.NegateStatement = 6 ∷ []
operation_bytes order address_size op.SetBasicBlock = 7 ∷ []
operation_bytes order address_size op.SetPrologueEnd = 10 ∷ []
operation_bytes order address_size op.SetEpilogueBegin = 11 ∷ []
operation_bytes order address_size (op.SetIsa n) = 12 ∷ shortest_uleb n
operation_bytes order address_size op.EndSequence = extended (1 ∷ [])
operation_bytes order address_size (op.SetAddress n) = extended (2 ∷ fixed_bytes order address_size n)
operation_bytes order address_size (op.SetDiscriminator n) = extended (4 ∷ shortest_uleb n)
operation_bytes order address_size other = []
