-- What contracts see of a number of 1, 2, 4 or 8 bytes that lacks at least one.
use Rattle.std.specs.Prelude.{ℕ, List}
use Rattle.dl_num.specs.declared.partial_number.PartialNumber.{PartialNumber}
use Rattle.dl_num.specs.OperandBytes.{operand_size, operand_bytes}

-- how many bytes it has
abbrev pub number_size : PartialNumber → ℕ
number_size n = operand_size n.operand

-- the bytes that have come
abbrev pub number_bytes : PartialNumber → List ℕ
number_bytes n = operand_bytes n.operand
