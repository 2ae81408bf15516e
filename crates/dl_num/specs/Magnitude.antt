-- A signed number that is written from its magnitude: n, or the number whose complement is n.
use Rattle.std.specs.Prelude.{ℕ, ◌-◌, ℤ, pos, negsuc, Bool, true, false}

-- the number
abbrev pub signed_value : Bool → ℕ → ℤ
signed_value false n = pos n
signed_value true n = negsuc n

-- the group of a byte, or of the complement
abbrev pub byte_of : Bool → ℕ → ℕ
byte_of false group = group
byte_of true group = 127 - group
