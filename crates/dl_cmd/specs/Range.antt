-- Ranges of addresses as texts.
use Rattle.std.specs.Prelude.{ℕ, ◌==◌, Bool, true, List, Option, option_and_then, option_map}
use Rattle.std.specs.List.{after_first, before_first}
use Rattle.dl_cmd.specs.Address.{address_by}

-- 45 is `-`
abbrev pub is_hyphen : ℕ → Bool
is_hyphen c = c == 45

-- the addresses that a text says: LOW-HIGH, in hexadecimal digits, where its first hyphen stands between them
abbrev pub range_in : List ℕ → Option (ℕ × ℕ)
range_in text =
    option_and_then (λ low. option_map (λ high. (low, high)) (address_by true (after_first is_hyphen text)))
    (address_by true (before_first is_hyphen text))
