-- Addresses as texts.
use Rattle.std.specs.Prelude.{ℕ, Bool, ◌+◌, ◌-◌, ◌*◌, ◌^◌, ◌&&◌, List, [], ◌∷◌, Option, Some, None, option_and_then, nat_lt}
use Rattle.std.specs.Prelude.{nat_le, ◌==◌, if◌then◌else◌}

-- the value of a digit: 48 is `0`, 97 is `a` and 65 is `A`
abbrev pub digit_of : ℕ → ℕ → Option ℕ
digit_of base c =
    if nat_le 48 c && nat_lt c 58 then Some (c - 48) else
    if (base == 16) && nat_le 97 c && nat_lt c 103 then Some (c - 87) else
    if (base == 16) && nat_le 65 c && nat_lt c 71 then Some (c - 55) else None

-- the number that the digits are when they follow those of `before`
abbrev pub number_after : ℕ → ℕ → List ℕ → Option ℕ
number_after base before [] = Some before
number_after base before (c ∷ text) =
    option_and_then (λ d. number_after base (before * base + d) text) (digit_of base c)

abbrev pub below_2_64 : ℕ → Option ℕ
below_2_64 n = if nat_lt n (2 ^ 64) then Some n else None

-- the number below 2^64 that one digit or more are
abbrev pub number_in : ℕ → List ℕ → Option ℕ
number_in base [] = None
number_in base (c ∷ text) = option_and_then below_2_64 (number_after base 0 (c ∷ text))

-- the address that a text says: `0x` and hexadecimal digits, or decimal digits
abbrev pub address_in : List ℕ → Option ℕ
address_in [] = None
address_in (c ∷ []) = number_in 10 (c ∷ [])
address_in (c ∷ x ∷ text) = if (c == 48) && (x == 120) then number_in 16 text else number_in 10 (c ∷ x ∷ text)

-- the same where digits without `0x` are hexadecimal too
abbrev pub hex_address_in : List ℕ → Option ℕ
hex_address_in [] = None
hex_address_in (c ∷ []) = number_in 16 (c ∷ [])
hex_address_in (c ∷ x ∷ text) = if (c == 48) && (x == 120) then number_in 16 text else number_in 16 (c ∷ x ∷ text)

-- the address that a text says; with `hex` digits without `0x` are hexadecimal too
abbrev pub address_by : (hex : Bool) → List ℕ → Option ℕ
address_by hex text = if hex then hex_address_in text else address_in text

-- the base of digits without `0x`
abbrev pub base_of : (hex : Bool) → ℕ
base_of hex = if hex then 16 else 10
