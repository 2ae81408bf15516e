-- The lowest bytes of a number, from a front of all of them.
use Rattle.std.proofs.Common.{◌≡◌, ℕ, zero, suc, ◌/◌, ◌%◌, ◌^◌, ◌≤◌, ◌∷◌, take, refl, sym, ap, ◌∙◌, arith}
use Rattle.std.proofs.Math.Nat.{div-div-eq-div-mul, div-one, pow-suc}
use Rattle.std.specs.Int.{byte_at, bytes_low_first}
use Rattle.dl_num.specs.Fixed.{little_bytes}

byte_is : (i n : ℕ) → byte_at i n ≡ n / 256 ^ i % 256
byte_is zero n = ap (λ m. m % 256) (sym (div-one n))
byte_is (suc i) n = refl

-- those from byte i on
front_from : (k m i n : ℕ) → k ≤ m → take k (bytes_low_first i m n) ≡ little_bytes k (n / 256 ^ i)
front_from zero m i n within = refl
front_from (suc k) zero i n within = absurd (omega (arith, within))
front_from (suc k) (suc m) i n within =
    let next : n / 256 ^ suc i ≡ n / 256 ^ i / 256 =
    ap (λ p. n / p) (pow-suc 256 i) ∙ sym (div-div-eq-div-mul n (256 ^ i) 256) in
    let rest = front_from k m (suc i) n (omega (arith, within)) in
    ap (λ b. b ∷ take k (bytes_low_first (suc i) m n)) (byte_is i n)
    ∙ ap (λ bs. n / 256 ^ i % 256 ∷ bs) (rest ∙ ap (little_bytes k) next)

-- of a number of eight bytes
pub low_front : (k n : ℕ) → k ≤ 8 → take k (bytes_low_first 0 8 n) ≡ little_bytes k n
low_front k n within = front_from k 8 0 n within ∙ ap (little_bytes k) (div-one n)
