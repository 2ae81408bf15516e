-- How many bytes operations have at most. No promise rests on this file.
use Rattle.std.specs.Prelude.{ℕ}
use Rattle.dl_rows.specs.declared.operation.Operation.{Operation}
use Rattle.dl_rows.specs.declared.operation.Operation.TheVariants as op

abbrev pub room : Operation → ℕ
room (op.AdvancePc n) = 11
room (op.AdvanceLine i) = 11
room (op.SetFile n) = 11
room (op.SetColumn n) = 11
room (op.SetIsa n) = 11
room op.EndSequence = 3
room (op.SetAddress n) = 11
room (op.SetDiscriminator n) = 13
room other = 1
