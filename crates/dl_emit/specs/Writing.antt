-- What was written of a unit, and how a failed write tells it.
use Rattle.std.specs.Prelude.{◌≡◌, ℕ, ◌<◌, List, length, take, Option, Some, None, Result, Ok, Err}
use Rattle.std.specs.Io.KnownBytes.{Appends, Keeps}
use Rattle.dl_num.specs.declared.fixed.Order.{Order}
use Rattle.dl_field.specs.HeaderData.{HeaderData}
use Rattle.dl_head.specs.Written.{header_bytes}
use Rattle.dl_rows.specs.declared.row.Row.{Row}
use Rattle.dl_emit.specs.declared.fault.EmitFault.{EmitFault}
use Rattle.dl_emit.specs.declared.fault.EmitFault.TheVariants as fault
use Rattle.dl_emit.specs.WrittenUnit.{unit_of, program_len, refusal}

-- `measure`, whatever the order
abbrev pub Measures : HeaderData → List Row → Result ℕ EmitFault → Type 0
Measures h rows (Ok n) = (refusal h rows ≡ None) × ((order : Order) → n ≡ length (unit_of order h rows))
Measures h rows (Err fault) = refusal h rows ≡ Some fault

-- `write_unit`: the unit is out; or only its first `out` bytes are; or it is refused and nothing is out
abbrev pub WritesUnit : Order → HeaderData → List Row → (old new : Option (List ℕ)) → Result ℕ EmitFault → Type 0
WritesUnit order h rows old new (Ok n) =
    (refusal h rows ≡ None) × (n ≡ length (unit_of order h rows)) × Appends old new (unit_of order h rows)
WritesUnit order h rows old new (Err (fault.Write out)) =
    (refusal h rows ≡ None) × (out < length (unit_of order h rows)) × Appends old new (take out (unit_of order h rows))
WritesUnit order h rows old new (Err refused) = (refusal h rows ≡ Some refused) × Keeps old new

-- `Program::write_header`: what the unit has before its program is out; or only its first `out` bytes are; or the unit
-- is refused and nothing is out
abbrev pub WritesUnitHeader : Order → HeaderData → List Row → (old new : Option (List ℕ)) → Result ℕ EmitFault → Type 0
WritesUnitHeader order h rows old new (Ok n) =
    (refusal h rows ≡ None) × (n ≡ length (header_bytes order h (program_len h.params rows)))
    × Appends old new (header_bytes order h (program_len h.params rows))
WritesUnitHeader order h rows old new (Err (fault.Write out)) =
    (refusal h rows ≡ None) × (out < length (header_bytes order h (program_len h.params rows)))
    × Appends old new (take out (header_bytes order h (program_len h.params rows)))
WritesUnitHeader order h rows old new (Err refused) = (refusal h rows ≡ Some refused) × Keeps old new
