-- Words that ask for a line of a file.
use Rattle.std.specs.Prelude.{◌≡◌, ◌≢◌, ℕ, ◌+◌, ◌-◌, ◌*◌, Bool, true, ◌&&◌, nat_le, List, [], ◌∷◌, ◌++◌}
use Rattle.std.specs.List.{list_all}

abbrev pub is_digit : ℕ → Bool
is_digit b = nat_le 0x30 b && nat_le b 0x39

-- what decimal digits say behind those of a number
abbrev pub number_after : ℕ → List ℕ → ℕ
number_after n [] = n
number_after n (b ∷ digits) = number_after (10 * n + (b - 0x30)) digits

-- a path, a colon, and the line in decimal digits
pub record AsksFor (word path : List ℕ) (line : ℕ) : Type 0 where
  pub digits : List ℕ
  pub whole : word ≡ path ++ 0x3a ∷ digits
  pub named : path ≢ []
  pub some : digits ≢ []
  pub decimal : list_all is_digit digits ≡ true
  pub number : line ≡ number_after 0 digits
