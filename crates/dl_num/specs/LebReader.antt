-- What the readers of LEB128 stand for and answer.
use Rattle.std.specs.Prelude.{◌≡◌, ℕ, ◌+◌, ◌*◌, ◌^◌, ◌%◌, ◌≤◌, ◌-◌, ℤ, pos, negsuc, nat_lt, Bool, true, false}
use Rattle.std.specs.Prelude.{if◌then◌else◌, List, [], ◌∷◌, length, Option, Some, None, Result, Ok, Err}
use Rattle.dl_num.specs.Leb.{groups, AllContinue, IsUleb, IsSleb, IsSigned64}
use Rattle.dl_num.specs.declared.leb.LebRange.{LebRange}
use Rattle.dl_num.specs.declared.leb.Uleb.{Uleb}
use Rattle.dl_num.specs.declared.leb.Sleb.{Sleb}

-- n, where it fits 64 bits
abbrev pub fitting : ℕ → Option ℕ
fitting n = if nat_lt n (2 ^ 64) then Some n else None

-- the groups with each bit turned over
abbrev pub turned_groups : List ℕ → ℕ
turned_groups [] = 0
turned_groups (b ∷ bs) = (127 - b % 128) + 128 * turned_groups bs

-- the reader has taken the bytes w of a number that has not ended
pub record UlebTook (u : Uleb) (w : List ℕ) : Type 0 where
  pub continue : AllContinue w
  pub number : u.number ≡ fitting (groups w)
  pub weight : u.weight ≡ fitting (128 ^ length w)

-- the number that w spells, or that it doesn't fit 64 bits
abbrev pub UlebIs : List ℕ → Result ℕ LebRange → Type 0
UlebIs w (Ok n) = IsUleb w n
UlebIs w (Err e) = (n : ℕ) × IsUleb w n × (2 ^ 64 ≤ n)

-- what follows the bytes w, the last one just pushed: more, or the number, and the reader is as new
abbrev pub UlebAnswer : List ℕ → Option (Result ℕ LebRange) → Uleb → Type 0
UlebAnswer w None new = UlebTook new w
UlebAnswer w (Some answer) new = UlebIs w answer × UlebTook new []

-- the reader has taken the bytes w of a number that has not ended
pub record SlebTook (s : Sleb) (w : List ℕ) : Type 0 where
  pub continue : AllContinue w
  pub number : s.number ≡ fitting (groups w)
  pub turned : s.turned ≡ fitting (turned_groups w)
  pub weight : s.weight ≡ fitting (128 ^ length w)

-- the number that w spells, or that it doesn't fit 64 bits
abbrev pub SlebIs : List ℕ → Result ℤ LebRange → Type 0
SlebIs w (Ok i) = IsSleb w i
SlebIs w (Err e) = (i : ℤ) × IsSleb w i × (IsSigned64 i → ⊥)

-- what follows the bytes w, the last one just pushed: more, or the number, and the reader is as new
abbrev pub SlebAnswer : List ℕ → Option (Result ℤ LebRange) → Sleb → Type 0
SlebAnswer w None new = SlebTook new w
SlebAnswer w (Some answer) new = SlebIs w answer × SlebTook new []

-- n, or -1 - t, where it fits
abbrev pub signed_of : Bool → ℕ → ℕ → Result ℤ LebRange
signed_of false n t = if nat_lt n (2 ^ 63) then Ok (pos n) else Err (record {})
signed_of true n t = if nat_lt t (2 ^ 63) then Ok (negsuc t) else Err (record {})
