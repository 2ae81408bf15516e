-- What contracts see of a number of fixed size that lacks at least one byte.
use Rattle.std.specs.Prelude.{ℕ, List}
use Rattle.dl_num.specs.declared.partial_bytes.PartialBytes.{PartialBytes}
use Rattle.dl_num.specs.FixedBytes.{size_of, taken_by}

-- how many bytes the number has
abbrev pub operand_size : PartialBytes → ℕ
operand_size o = size_of o.fixed

-- the bytes that have come
abbrev pub operand_bytes : PartialBytes → List ℕ
operand_bytes o = taken_by o.fixed
