-- Least widths.
use Rattle.std.proofs.Common.{◌≡◌, ℕ, zero, suc, ◌<◌, ◌≤◌, ◌^◌, Bool, true, false, List, [], ◌∷◌, get_or}
use Rattle.std.proofs.Common.{refl, arith}
use Rattle.std.specs.Prelude.{if◌then◌else◌, nat_lt}
use Rattle.dl_num.specs.Fixed.{is_number_size}
use Rattle.std.proofs.lemmas.Bool.{ltb-true}
use Rattle.dl_pack.specs.Columns.{least_size, greatest}

size_cases : (a b c : Bool) → is_number_size (if a then 1 else if b then 2 else if c then 4 else 8) ≡ true
size_cases true b c = refl
size_cases false true c = refl
size_cases false false true = refl
size_cases false false false = refl

pub least_size_is : (n : ℕ) → is_number_size (least_size n) ≡ true
least_size_is n = size_cases (nat_lt n (2 ^ 8)) (nat_lt n (2 ^ 16)) (nat_lt n (2 ^ 32))

room_cases : (n : ℕ) (a b c : Bool) → nat_lt n (2 ^ 8) ≡ a → nat_lt n (2 ^ 16) ≡ b → nat_lt n (2 ^ 32) ≡ c → n < 2 ^ 64
    → n < 256 ^ (if a then 1 else if b then 2 else if c then 4 else 8)
room_cases n true b c h1 h2 h3 lt = ltb-true n (2 ^ 8) h1
room_cases n false true c h1 h2 h3 lt = ltb-true n (2 ^ 16) h2
room_cases n false false true h1 h2 h3 lt = ltb-true n (2 ^ 32) h3
room_cases n false false false h1 h2 h3 lt = lt

pub least_size_holds : (n : ℕ) → n < 2 ^ 64 → n < 256 ^ least_size n
least_size_holds n lt = room_cases n (nat_lt n (2 ^ 8)) (nat_lt n (2 ^ 16)) (nat_lt n (2 ^ 32)) refl refl refl lt

upto_greatest : (numbers : List ℕ) (k : ℕ) → get_or numbers k 0 ≤ greatest numbers
upto_greatest [] k = omega arith
upto_greatest (n ∷ numbers) zero = omega arith
upto_greatest (n ∷ numbers) (suc k) = omega (arith, upto_greatest numbers k)

-- the numbers of a column are below what its width holds
pub number_fits : (numbers : List ℕ) (k : ℕ) → greatest numbers < 2 ^ 64
    → get_or numbers k 0 < 256 ^ least_size (greatest numbers)
number_fits numbers k lt = omega (arith, upto_greatest numbers k, least_size_holds (greatest numbers) lt)
