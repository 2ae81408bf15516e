-- The lowest bytes of a number.
use Rattle.std.proofs.Common.{◌≡◌, ℕ, zero, suc, ◌/◌, ◌^◌, ◌≤◌, ◌%◌, ◌∷◌, take, refl, sym, ap, ◌∙◌, arith}
use Rattle.std.specs.Int.{w64, byte_at, bytes_low_first, to_le_bytes}
use Rattle.std.proofs.Math.Nat.{div-div-eq-div-mul, pow-suc}
use Rattle.dl_num.specs.Fixed.{little_bytes}

bytes_from : (i k n : ℕ) → bytes_low_first (suc i) k n ≡ little_bytes k (n / 256 ^ suc i)
bytes_from i zero n = refl
bytes_from i (suc k) n =
    ap (λ rest. n / 256 ^ suc i % 256 ∷ rest) (bytes_from (suc i) k n
    ∙ ap (λ m. little_bytes k (n / m)) (pow-suc 256 (suc i))
    ∙ ap (little_bytes k) (sym (div-div-eq-div-mul n (256 ^ suc i) 256)))

bytes_are : (k n : ℕ) → bytes_low_first 0 k n ≡ little_bytes k n
bytes_are zero n = refl
bytes_are (suc k) n = ap (λ rest. n % 256 ∷ rest) (bytes_from 0 k n)

take_bytes : (i k n x : ℕ) → n ≤ k → take n (bytes_low_first i k x) ≡ bytes_low_first i n x
take_bytes i k zero x h = refl
take_bytes i zero (suc n) x h = absurd (omega arith)
take_bytes i (suc k) (suc n) x h = ap (λ rest. byte_at i x ∷ rest) (take_bytes (suc i) k n x (omega arith))

pub lowest_bytes : (size n : ℕ) → size ≤ 8 → take size (to_le_bytes w64 n) ≡ little_bytes size n
lowest_bytes size n le = take_bytes 0 8 size n le ∙ bytes_are size n
