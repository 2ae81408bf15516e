-- The sequences of a line number program. DWARF 5, sections 6.2.5 and 6.2.5.3.
use Rattle.std.specs.Prelude.{ℕ, List, [], ◌∷◌, ◌++◌, Option, Some, None, flat_map, if◌then◌else◌}
use Rattle.dl_num.specs.declared.fixed.Order.{Order}
use Rattle.dl_num.specs.Front.{Standing, standing}
use Rattle.dl_field.specs.declared.params.Params.{Params}
use Rattle.dl_rows.specs.declared.operation.Operation.{Operation}
use Rattle.dl_rows.specs.Matrix.{is_end}
use Rattle.dl_rows.specs.OperationSpelt.{operation_spelt, good_one}

-- an operation and the bytes that spell it
pub record Spelled : Type 0 where
  pub operation : Operation
  pub bytes : List ℕ

abbrev pub spelled_by : List ℕ → Option Operation → Option Spelled
spelled_by w (Some o) = Some (record { operation = o; bytes = w })
spelled_by w None = None

-- the operation that w spells, and w
abbrev pub spelled : Order → Params → List ℕ → Option Spelled
spelled order h w = spelled_by w (good_one (operation_spelt order h w))

-- the operations at the front of a program, and the bytes after them
abbrev pub spelled_in : Order → Params → List ℕ → Standing Spelled
spelled_in order h program = standing (spelled order h) program

-- the bytes of operations
abbrev pub bytes_of : List Spelled → List ℕ
bytes_of s = flat_map (λ o. o.bytes) s

-- whole sequences, and the operations after the last one
pub record Sequences : Type 0 where
  pub whole : List (List Spelled)
  pub begun : List Spelled

abbrev pub with_sequence : List Spelled → Sequences → Sequences
with_sequence s cut = record { whole = s ∷ cut.whole; begun = cut.begun }

-- begun: operations before these, none of which ends a sequence
abbrev pub sequences_after : List Spelled → List Spelled → Sequences
sequences_after begun [] = record { whole = []; begun = begun }
sequences_after begun (o ∷ s) = if is_end o.operation then with_sequence (begun ++ o ∷ []) (sequences_after [] s)
    else sequences_after (begun ++ o ∷ []) s

-- operations in sequences, each up to and with its DW_LNE_end_sequence
abbrev pub sequences : List Spelled → Sequences
sequences s = sequences_after [] s
