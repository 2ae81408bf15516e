-- Numbers and bytes in digits.
use Rattle.std.specs.Prelude.{ℕ, Bool, if◌then◌else◌, ◌+◌, ◌-◌, ◌/◌, ◌%◌, false, List, [], ◌∷◌, ◌++◌, length, replicate}
use Rattle.std.specs.Prelude.{flat_map}
use Rattle.std.specs.Fmt.{digit_glyph, digits}

-- the last hexadecimal digit, in lower case
abbrev pub last_digit : ℕ → ℕ
last_digit n = digit_glyph false (n % 16)

-- lower-case hexadecimal without leading zeros
abbrev pub hexadecimal : ℕ → List ℕ
hexadecimal n = digits 16 false n

-- the same with zeros in front, k digits in all, of a number below 16^k
abbrev pub hexadecimal_of : ℕ → ℕ → List ℕ
hexadecimal_of k n = replicate (k - length (hexadecimal n)) 48 ++ hexadecimal n

-- two digits for each byte
abbrev pub hexadecimal_bytes : List ℕ → List ℕ
hexadecimal_bytes bytes = flat_map (hexadecimal_of 2) bytes

-- the decimal digit, where it is wanted
abbrev pub digit_if : Bool → ℕ → List ℕ
digit_if is_wanted digit = if is_wanted then (48 + digit) ∷ [] else []

-- the decimal digits of a number below 10,000, with zeros in front
abbrev pub four_digits : ℕ → List ℕ
four_digits n = (48 + n / 1000) ∷ (48 + n / 100 % 10) ∷ (48 + n / 10 % 10) ∷ (48 + n % 10) ∷ []
