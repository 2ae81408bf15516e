-- What is told of addresses, by stretches of them.
use Rattle.std.specs.Prelude.{ℕ, Bool, List, Option, nat_le, reverse}
use Rattle.std.specs.List.{find}
use Rattle.std.specs.Option.{option_and_then}

-- what is told of an address: the offset of its unit in the line section, its path as the texts whose concatenation it is
-- (none where it is unknown), line, column, discriminator and is_stmt. DWARF 5, section 6.2.2
pub record Told : Type 0 where
  pub unit : ℕ
  pub parts : List (List ℕ)
  pub line : ℕ
  pub column : ℕ
  pub discriminator : ℕ
  pub is_stmt : Bool

-- from this address on, up to that of the next stretch, this is told; None is a gap
pub record Stretch : Type 0 where
  pub start : ℕ
  pub told : Option Told

-- the last stretch that doesn't begin above an address tells; before the first there is nothing
abbrev pub told_at : List Stretch → ℕ → Option Told
told_at stretches a = option_and_then (λ s. s.told) (find (λ s. nat_le s.start a) (reverse stretches))
