-- What the phases of the header reader say of its params, tables and end. No promise rests on this file.
use Rattle.std.specs.Prelude.{◌≡◌, List, ℕ, ◌+◌, ◌^◌, Bool, true, nat_le, nat_lt, ◌==◌, ◌&&◌, Option, Some, None}
use Rattle.std.specs.Prelude.{if◌then◌else◌}
use Rattle.dl_table.specs.declared.form.Format.{Format}
use Rattle.dl_head.specs.declared.reader.byte_field.ByteField.{ByteField}
use Rattle.dl_head.specs.declared.reader.byte_field.ByteField.TheVariants as field
use Rattle.dl_head.specs.declared.reader.Phase.{Phase}
use Rattle.dl_head.specs.declared.reader.Phase.TheVariants as phase
use Rattle.dl_table.specs.Built.{same_format}
use Rattle.dl_head.specs.Built.{are_operations, wrong_length}

-- the field after minimum_instruction_length
abbrev pub field_after_minimum : ℕ → ByteField
field_after_minimum v = if nat_lt v 4 then field.DefaultIsStmt else field.MaximumOperations

-- the first table of a unit of this version
abbrev pub first_table : ℕ → Phase
first_table v = if v == 5 then phase.Directories else phase.OlderDirectories

-- whether n opcode lengths fit the phase and opcode_base
abbrev pub lengths_fit : Phase → ℕ → ℕ → Bool
lengths_fit phase.OpcodeLength n base = nat_lt (n + 1) base
lengths_fit phase.Directories n base = n + 1 == base
lengths_fit phase.Files n base = n + 1 == base
lengths_fit phase.OlderDirectories n base = n + 1 == base
lengths_fit phase.OlderFiles n base = n + 1 == base
lengths_fit phase.Padding n base = n + 1 == base
lengths_fit phase.Done n base = true
lengths_fit (phase.Foreign v) n base = true
lengths_fit (phase.Failed f) n base = true
lengths_fit p n base = n == 0

-- whether an instruction of version v may have n operations at most; where their field is next, it has that field
abbrev pub operations_fit : Phase → (v n : ℕ) → Bool
operations_fit (phase.Byte field.MaximumOperations) v n = nat_le 4 v
operations_fit phase.Done v n = true
operations_fit (phase.Foreign f) v n = true
operations_fit (phase.Failed f) v n = true
operations_fit p v n = are_operations v n

-- no unit that is accepted ends after this
abbrev pub end_near : Option ℕ → Bool
end_near None = true
end_near (Some end) = nat_le end (2 ^ 41)

-- whether tables of these numbers of cells fit the phase: one that isn't read yet has none
abbrev pub tables_fit : Phase → (directories files : ℕ) → Bool
tables_fit phase.Files directories files = files == 0
tables_fit phase.OlderFiles directories files = files == 0
tables_fit phase.Padding directories files = true
tables_fit phase.Done directories files = true
tables_fit (phase.Foreign v) directories files = true
tables_fit (phase.Failed f) directories files = true
tables_fit p directories files = directories + files == 0

-- whether the tables that are read have the format
abbrev pub formats_fit : Phase → (unit directories files : Format) → Bool
formats_fit phase.Files unit directories files = same_format directories unit
formats_fit phase.OlderFiles unit directories files = same_format directories unit
formats_fit phase.Padding unit directories files = same_format directories unit && same_format files unit
formats_fit p unit directories files = true

-- no standard opcode has a wrong number of operands
pub record AreStandard (lengths : List ℕ) : Type 0 where
  pub none_wrong : wrong_length 1 lengths ≡ None
