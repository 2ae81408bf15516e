-- The bits of a byte.
use Rattle.std.proofs.Common.{◌≡◌, ℕ, zero, suc, ◌+◌, ◌*◌, ◌/◌, ◌%◌, ◌<◌, ◌≤◌, ◌^◌, arith, ap}

-- the eight values of a number below 8
pub below_8 : (P : ℕ → Type 0) → P 0 → P 1 → P 2 → P 3 → P 4 → P 5 → P 6 → P 7 → (r : ℕ) → r < 8 → P r
below_8 P p0 p1 p2 p3 p4 p5 p6 p7 zero lt = p0
below_8 P p0 p1 p2 p3 p4 p5 p6 p7 (suc zero) lt = p1
below_8 P p0 p1 p2 p3 p4 p5 p6 p7 (suc (suc zero)) lt = p2
below_8 P p0 p1 p2 p3 p4 p5 p6 p7 (suc (suc (suc zero))) lt = p3
below_8 P p0 p1 p2 p3 p4 p5 p6 p7 (suc (suc (suc (suc zero)))) lt = p4
below_8 P p0 p1 p2 p3 p4 p5 p6 p7 (suc (suc (suc (suc (suc zero))))) lt = p5
below_8 P p0 p1 p2 p3 p4 p5 p6 p7 (suc (suc (suc (suc (suc (suc zero)))))) lt = p6
below_8 P p0 p1 p2 p3 p4 p5 p6 p7 (suc (suc (suc (suc (suc (suc (suc zero))))))) lt = p7
below_8 P p0 p1 p2 p3 p4 p5 p6 p7 (suc (suc (suc (suc (suc (suc (suc (suc r)))))))) lt = absurd (omega arith)

-- byte k of bits has bit k * 8 + r as its bit r
pub bit_of_byte : (bit : ℕ → ℕ) → ((i : ℕ) → bit i ≤ 1) → (k r : ℕ) → r < 8
    → (bit (k * 8) + 2 * bit (k * 8 + 1) + 4 * bit (k * 8 + 2) + 8 * bit (k * 8 + 3) + 16 * bit (k * 8 + 4)
    + 32 * bit (k * 8 + 5) + 64 * bit (k * 8 + 6) + 128 * bit (k * 8 + 7)) / 2 ^ r % 2 ≡ bit (k * 8 + r)
bit_of_byte bit small k r lt =
    let i : ℕ = k * 8 in
    let z : bit i ≡ bit (i + 0) = ap bit (omega arith) in
    let b0 : bit i ≤ 1 = small i in
    let b1 : bit (i + 1) ≤ 1 = small (i + 1) in
    let b2 : bit (i + 2) ≤ 1 = small (i + 2) in
    let b3 : bit (i + 3) ≤ 1 = small (i + 3) in
    let b4 : bit (i + 4) ≤ 1 = small (i + 4) in
    let b5 : bit (i + 5) ≤ 1 = small (i + 5) in
    let b6 : bit (i + 6) ≤ 1 = small (i + 6) in
    let b7 : bit (i + 7) ≤ 1 = small (i + 7) in
    let byte : ℕ = bit i + 2 * bit (i + 1) + 4 * bit (i + 2) + 8 * bit (i + 3) + 16 * bit (i + 4)
    + 32 * bit (i + 5) + 64 * bit (i + 6) + 128 * bit (i + 7) in
    below_8 (λ r. byte / 2 ^ r % 2 ≡ bit (i + r)) (omega arith) (omega arith) (omega arith) (omega arith)
    (omega arith) (omega arith) (omega arith) (omega arith) r lt
