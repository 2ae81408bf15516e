-- Numbers in LEB128: bytes of seven bits, the low group first, bit 7 set on each byte but the last.
-- DWARF 5, section 7.6.
use Rattle.std.specs.Prelude.{◌≡◌, ℕ, ◌+◌, ◌*◌, ◌^◌, ◌%◌, ◌<◌, ◌≤◌, ◌-ℤ◌, ℤ, pos, negsuc, nat_lt, if◌then◌else◌, List}
use Rattle.std.specs.Prelude.{[], ◌∷◌, ◌++◌, length}

-- the sum of the groups of seven bits, that of byte i times 128^i
abbrev pub groups : List ℕ → ℕ
groups [] = 0
groups (b ∷ bs) = b % 128 + 128 * groups bs

-- each byte says that more follow
abbrev pub AllContinue : List ℕ → Type 0
AllContinue [] = Unit {0}
AllContinue (b ∷ bs) = (128 ≤ b) × AllContinue bs

-- all bytes but the last say that more follow, and the last does not
pub record IsLeb (w front : List ℕ) (last : ℕ) : Type 0 where
  pub bytes : w ≡ front ++ last ∷ []
  pub continue : AllContinue front
  pub ends : last < 128

-- w spells the unsigned number n, with any padding
abbrev pub IsUleb : List ℕ → ℕ → Type 0
IsUleb w n = (front : List ℕ) × (last : ℕ) × IsLeb w front last × (n ≡ groups w)

-- the groups in two's complement: bit 6 of the last byte is the sign
abbrev pub signed_groups : List ℕ → ℕ → ℤ
signed_groups w last = if nat_lt last 64 then pos (groups w) else pos (groups w) -ℤ pos (128 ^ length w)

-- w spells the signed number i, with any padding
abbrev pub IsSleb : List ℕ → ℤ → Type 0
IsSleb w i = (front : List ℕ) × (last : ℕ) × IsLeb w front last × (i ≡ signed_groups w last)

-- from -2^63 to 2^63 - 1
abbrev pub IsSigned64 : ℤ → Type 0
IsSigned64 (pos n) = n < 2 ^ 63
IsSigned64 (negsuc n) = n < 2 ^ 63

-- w spells n, and nothing shorter does
pub record IsShortestUleb (w : List ℕ) (n : ℕ) : Type 0 where
  pub spells : IsUleb w n
  pub shortest : (v : List ℕ) → IsUleb v n → length w ≤ length v

-- w spells i, and nothing shorter does
pub record IsShortestSleb (w : List ℕ) (i : ℤ) : Type 0 where
  pub spells : IsSleb w i
  pub shortest : (v : List ℕ) → IsSleb v i → length w ≤ length v
