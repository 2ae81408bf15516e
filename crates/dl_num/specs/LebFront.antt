-- Tests and cuts of numbers in LEB128 that compute, for definitions over whole lists of bytes. DWARF 5, section 7.6.
use Rattle.std.specs.Prelude.{ℕ, nat_lt, nat_le, ◌&&◌, Bool, false, if◌then◌else◌, List, [], ◌∷◌, length, drop}

-- every byte but the last has bit 7 set, and the last hasn't
abbrev pub is_leb : List ℕ → Bool
is_leb [] = false
is_leb (b ∷ []) = nat_lt b 128
is_leb (b ∷ c ∷ w) = nat_le 128 b && is_leb (c ∷ w)

-- the number in LEB128 at the front of w: the bytes through the first one below 128
abbrev pub leb_front : List ℕ → List ℕ
leb_front [] = []
leb_front (b ∷ w) = if nat_lt b 128 then b ∷ [] else b ∷ leb_front w

-- what follows the number at the front
abbrev pub after_leb : List ℕ → List ℕ
after_leb w = drop (length (leb_front w)) w
