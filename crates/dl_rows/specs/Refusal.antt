-- Where a unit is refused, and why. Places count from the unit's first byte. DWARF 5, sections 6.2.4 and 6.2.5.
use Rattle.dl_head.specs.declared.dialect.Dialect.{Dialect}
use Rattle.std.specs.Prelude.{◌≡◌, ℕ, ◌+◌, List, [], ◌∷◌, length, Option, Some, None}
use Rattle.dl_num.specs.declared.fixed.Order.{Order}
use Rattle.dl_field.specs.declared.params.Params.{Params}
use Rattle.dl_table.specs.declared.fault.FaultKind.{FaultKind}
use Rattle.dl_table.specs.declared.fault.FaultKind.TheVariants as fault
use Rattle.dl_field.specs.HeaderData.{HeaderData}
use Rattle.dl_head.specs.Header.{cut, unit_len, header_in}
use Rattle.dl_head.specs.Refusal.{or_else, bad_kind, at_end, header_decided, NothingBefore}
use Rattle.dl_rows.specs.OperationSpelt.{operation_spelt, operations_in}

-- what is left of b after the good fields, or, once there is a header, after it and the operations that are complete
abbrev pub left_after : Dialect → List ℕ → Option (HeaderData × List ℕ) → List ℕ
left_after dialect b None = (cut dialect b).rest
left_after dialect b (Some (h, program)) = (operations_in dialect.order h.params program).rest

abbrev pub left_over : Dialect → List ℕ → List ℕ
left_over dialect b = left_after dialect b (header_in dialect b)

-- what the last of n bytes decides, w being those of the current operation: it is bad, or the last byte of the unit too
-- and incomplete
abbrev pub operation_decided : Order → Params → List ℕ → ℕ → Option ℕ → Option FaultKind
operation_decided order h [] n end = None
operation_decided order h (x ∷ w) n end =
    or_else (bad_kind (operation_spelt order h (x ∷ w))) (at_end fault.OpcodeOverrun n end)

abbrev pub decided_after : Dialect → List ℕ → Option (HeaderData × List ℕ) → Option FaultKind
decided_after dialect b None = header_decided dialect b
decided_after dialect b (Some (h, program)) =
    operation_decided dialect.order h.params (operations_in dialect.order h.params program).rest (length b)
    (unit_len dialect b)

-- the kind that the last byte of b decides
abbrev pub unit_decided : Dialect → List ℕ → Option FaultKind
unit_decided dialect b = decided_after dialect b (header_in dialect b)

-- b, a front of a unit, is refused: its last byte decides the kind, nothing shorter decides anything, and the place is
-- where the good fields and the operations end
pub record Refused (dialect : Dialect) (b : List ℕ) (at : ℕ) (kind : FaultKind) : Type 0 where
  pub place : at + length (left_over dialect b) ≡ length b
  pub decided : unit_decided dialect b ≡ Some kind
  pub shortest : NothingBefore (unit_decided dialect) b
