-- Ranges of addresses, and how far they reach in the order of their starts.
use Rattle.std.specs.Prelude.{◌≡◌, ℕ, ◌+◌, ◌<◌, ◌≤◌, Bool, ◌&&◌, nat_le, nat_lt, List, length, slice_index_or}
use Rattle.std.specs.List.{list_any}
use Rattle.dl_look.specs.declared.code_ranges.AddressRange.{AddressRange}
use Rattle.dl_look.specs.declared.code_ranges.Reach.{Reach}

-- the range has the address a; its end isn't reckoned modulo 2^64
abbrev pub is_in : ℕ → AddressRange → Bool
is_in a r = nat_le r.start a && nat_lt a (r.start + r.size)

abbrev pub is_reached : ℕ → Reach → Bool
is_reached a r = nat_le r.start a && nat_lt a r.end

-- for the numbers past the last one
abbrev pub no_range : AddressRange
no_range = record { start = 0; size = 0 }

abbrev pub no_reach : Reach
no_reach = record { start = 0; end = 0 }

abbrev pub start_in : List AddressRange → ℕ → ℕ
start_in ranges k = (slice_index_or ranges k no_range).start

abbrev pub StartsRise : List AddressRange → Type 0
StartsRise ranges = (j k : ℕ) → j ≤ k → k < length ranges → start_in ranges j ≤ start_in ranges k

abbrev pub reach_start : List Reach → ℕ → ℕ
reach_start reaches k = (slice_index_or reaches k no_reach).start

abbrev pub reach_end : List Reach → ℕ → ℕ
reach_end reaches k = (slice_index_or reaches k no_reach).end

-- neither starts nor ends fall
abbrev pub AreRising : List Reach → Type 0
AreRising reaches = (j k : ℕ) → j ≤ k → k < length reaches
    → (reach_start reaches j ≤ reach_start reaches k) × (reach_end reaches j ≤ reach_end reaches k)

-- they reach the addresses of the ranges, and no others
pub record AreReaches (ranges : List AddressRange) (reaches : List Reach) : Type 0 where
  pub rising : AreRising reaches
  pub same : (a : ℕ) → list_any (is_reached a) reaches ≡ list_any (is_in a) ranges
