-- The shortest spelling of a number in LEB128, computed. DWARF 5, section 7.6.
use Rattle.std.specs.Prelude.{ℕ, zero, suc, ◌+◌, ◌/◌, ◌%◌, ℤ, pos, negsuc, Bool, true, false, nat_lt, List, [], ◌∷◌}
use Rattle.dl_num.specs.Magnitude.{byte_of}

-- the groups of n as bytes, or their complements, the last without bit 7 and below end; there are at most count + 1
abbrev pub group_bytes : ℕ → Bool → ℕ → ℕ → List ℕ
group_bytes end negative zero n = byte_of negative n ∷ []
group_bytes end negative (suc count) n =
    elim (nat_lt n end) [
      | true ↦ byte_of negative n ∷ []
      | false ↦ (128 + byte_of negative (n % 128))
          ∷ group_bytes end negative count (n / 128)
    ]

-- a number has no more groups than it is large
abbrev pub shortest_uleb : ℕ → List ℕ
shortest_uleb n = group_bytes 128 false n n

-- bit 6 of the last byte is the sign
abbrev pub shortest_sleb : ℤ → List ℕ
shortest_sleb (pos n) = group_bytes 64 false n n
shortest_sleb (negsuc n) = group_bytes 64 true n n
