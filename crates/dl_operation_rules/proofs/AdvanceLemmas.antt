-- Where operation advances lead the registers.
use Rattle.std.proofs.Common.{◌≡◌, ℕ, ◌+◌, ◌*◌, ◌/◌, ◌%◌, ◌≤◌, sym, ap₂}
use Rattle.dl_rows.proofs.PlaceLemmas.{div_split, mod_split}
use Rattle.dl_operation_rules.specs.Keeping.{to}

-- an operation advance in two parts
pub advanced_is : (address minimum index by maximum : ℕ) → 1 ≤ maximum
    → to (address + minimum * (by / maximum + (index + by % maximum) / maximum)) ((index + by % maximum) % maximum)
    ≡ to (address + minimum * ((index + by) / maximum)) ((index + by) % maximum)
advanced_is address minimum index by maximum some =
    ap₂ (λ (q m : ℕ). to (address + minimum * q) m) (sym (div_split index by maximum some))
    (sym (mod_split index by maximum))
