-- A text that says an address, byte by byte.
use Rattle.std.specs.Prelude.{ℕ, ◌+◌, ◌*◌, Bool, true, ◌==◌, if◌then◌else◌, Option, Some, None, option_and_then}
use Rattle.dl_cmd.specs.Address.{base_of, below_2_64, digit_of}
use Rattle.dl_cmd.specs.declared.address.AddressText.{AddressText}
use Rattle.dl_cmd.specs.declared.address.AddressText.TheVariants.{Empty, Zero, Prefix, Digits, Other}

-- the number that a digit more makes, where it is below 2^64
abbrev pub one_digit_more : (hex : Bool) → (number byte : ℕ) → Option ℕ
one_digit_more hex number byte =
    option_and_then (λ d. below_2_64 (number * base_of hex + d)) (digit_of (base_of hex) byte)

abbrev pub digits_or_other : (hex : Bool) → Option ℕ → AddressText
digits_or_other hex None = Other
digits_or_other hex (Some number) = Digits hex number

abbrev pub after_digit : (hex : Bool) → (number byte : ℕ) → AddressText
after_digit hex number byte = digits_or_other hex (one_digit_more hex number byte)

-- a byte more; 48 is `0` and 120 is `x`
abbrev pub text_after : (hex : Bool) → AddressText → (byte : ℕ) → AddressText
text_after hex Empty byte = if byte == 48 then Zero else after_digit hex 0 byte
text_after hex Zero byte = if byte == 120 then Prefix else after_digit hex 0 byte
text_after hex Prefix byte = after_digit true 0 byte
text_after hex (Digits own number) byte = after_digit own number byte
text_after hex Other byte = Other

-- the address that the text says
abbrev pub address_of : AddressText → Option ℕ
address_of Empty = None
address_of Zero = Some 0
address_of Prefix = None
address_of (Digits hex number) = Some number
address_of Other = None
