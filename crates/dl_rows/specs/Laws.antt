-- Laws of the definitions of operations, programs and rows.
use Rattle.std.specs.Prelude.{◌≡◌, ℕ, ◌≤◌, ◌↔◌, List, [], ◌++◌, length}
use Rattle.dl_num.specs.declared.fixed.Order.{Order}
use Rattle.dl_field.specs.declared.params.Params.{Params}
use Rattle.dl_table.specs.declared.fault.FaultKind.{FaultKind}
use Rattle.dl_table.specs.Value.{Judgement, good, bad}
use Rattle.dl_rows.specs.declared.operation.Operation.{Operation}
use Rattle.dl_rows.specs.OperationSpelt.{operation_spelt, operations_in}
use Rattle.dl_rows.specs.Spelling.{SpellsOperation, SpellsProgram}
use Rattle.dl_rows.specs.BadOperation.{IsFaulty, IsBadOperation}
use Rattle.dl_rows.specs.Matrix.{matrix}

-- what is computed is good, with this operation, exactly where the bytes spell it
abbrev pub SpeltIsSpelled : Type 0
SpeltIsSpelled = (order : Order) (h : Params) (o : Operation) (w : List ℕ) → 1 ≤ h.opcode_base
    → SpellsOperation order h o w ↔ (operation_spelt order h w ≡ good o)

-- and bad, of this kind, exactly where they are a bad operation of this kind
abbrev pub BadIsFaulty : Type 0
BadIsFaulty = (order : Order) (h : Params) (kind : FaultKind) (w : List ℕ) → 1 ≤ h.opcode_base
    → IsBadOperation h w kind ↔ (◌≡◌ {A = Judgement Operation} (operation_spelt order h w) (bad kind))

-- under one header no spelling begins another
abbrev pub NoOperationBeginsAnother : Type 0
NoOperationBeginsAnother = (order : Order) (h : Params) (o p : Operation) (w v : List ℕ) → 1 ≤ h.opcode_base
    → SpellsOperation order h o w → SpellsOperation order h p (w ++ v) → v ≡ []

-- bytes spell one operation
abbrev pub OneOperation : Type 0
OneOperation = (order : Order) (h : Params) (o p : Operation) (w : List ℕ) → 1 ≤ h.opcode_base
    → SpellsOperation order h o w → SpellsOperation order h p w → o ≡ p

-- what is spelled isn't bad, nor is a front of it
abbrev pub NoSpellingIsFaulty : Type 0
NoSpellingIsFaulty = (order : Order) (h : Params) (o : Operation) (kind : FaultKind) (w v : List ℕ) → 1 ≤ h.opcode_base
    → SpellsOperation order h o (w ++ v) → IsFaulty h w kind → ⊥

-- bytes spell one program
abbrev pub OneProgram : Type 0
OneProgram = (order : Order) (h : Params) (p q : List Operation) (w : List ℕ) → 1 ≤ h.opcode_base
    → SpellsProgram order h p w → SpellsProgram order h q w → p ≡ q

-- the operations of a program are found, and then those of what follows it
abbrev pub ProgramIsFound : Type 0
ProgramIsFound =
    (order : Order) (h : Params) (p : List Operation) (w v : List ℕ) → 1 ≤ h.opcode_base → SpellsProgram order h p w
    → operations_in order h (w ++ v) ≡ record {
      found = p ++ (operations_in order h v).found;
      rest =
          (operations_in order h v).rest;
    }

-- what is found is spelled by the bytes before the rest
abbrev pub FoundIsProgram : Type 0
FoundIsProgram = (order : Order) (h : Params) (b : List ℕ) → 1 ≤ h.opcode_base
    → (w : List ℕ) × (b ≡ w ++ (operations_in order h b).rest) × SpellsProgram order h (operations_in order h b).found w

-- and no operation begins the rest
abbrev pub NoneBeginsRest : Type 0
NoneBeginsRest = (order : Order) (h : Params) (b : List ℕ) (o : Operation) (w v : List ℕ) → 1 ≤ h.opcode_base
    → (operations_in order h b).rest ≡ w ++ v → SpellsOperation order h o w → ⊥

-- at most one row for each byte of a program
abbrev pub RowForByte : Type 0
RowForByte = (order : Order) (h : Params) (b : List ℕ) → length (matrix h (operations_in order h b).found) ≤ length b
