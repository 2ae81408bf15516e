-- The tables, row by row.
use Rattle.std.proofs.Common.{◌≡◌, ℕ, zero, suc, ◌+◌, ◌*◌, ◌<◌, List, [], ◌∷◌, get_or, refl, ap, ◌∙◌, arith}
use Rattle.dl_crc.specs.Crc32.{shifts}
use Rattle.dl_crc.specs.declared.table.TheConstants.{TABLES}

-- so many bits out of n numbers from k on
rows : (bits k n : ℕ) → List ℕ
rows bits k zero = []
rows bits k (suc n) = shifts bits k ∷ rows bits (suc k) n

row_of : (bits n k i : ℕ) → i < n → get_or (rows bits k n) i 0 ≡ shifts bits (k + i)
unfolding rows
row_of bits zero k i below = absurd (omega arith)
row_of bits (suc n) k zero below = let e : k ≡ k + 0 = omega arith in ap (shifts bits) e
row_of bits (suc n) k (suc i) below =
    let e : suc k + i ≡ k + suc i = omega arith in
    row_of bits n (suc k) i (omega arith) ∙ ap (shifts bits) e

-- the tables for k bytes after a byte, and for one more each
tables : (k n : ℕ) → List (List ℕ)
tables k zero = []
tables k (suc n) = rows (8 * (k + 1)) 0 256 ∷ tables (suc k) n

table_of : (n k i : ℕ) → i < n → get_or (tables k n) i [] ≡ rows (8 * (k + i + 1)) 0 256
unfolding tables
table_of zero k i below = absurd (omega arith)
table_of (suc n) k zero below = let e : k ≡ k + 0 = omega arith in ap (λ m. rows (8 * (m + 1)) 0 256) e
table_of (suc n) k (suc i) below =
    let e : suc k + i ≡ k + suc i = omega arith in
    table_of n (suc k) i (omega arith) ∙ ap (λ m. rows (8 * (m + 1)) 0 256) e

tables-are : TABLES ≡ tables 0 8
unfolding tables rows
tables-are = refl

pub row_is : (k i : ℕ) → k < 8 → i < 256 → get_or (get_or TABLES k []) i 0 ≡ shifts (8 * (k + 1)) i
row_is k i few below =
    let e : 0 + i ≡ i = omega arith in
    let j : 0 + k + 1 ≡ k + 1 = omega arith in
    ap (λ t. get_or (get_or t k []) i 0) tables-are ∙ ap (λ t. get_or t i 0) (table_of 8 0 k few)
    ∙ row_of (8 * (0 + k + 1)) 256 0 i below ∙ ap (shifts (8 * (0 + k + 1))) e ∙ ap (λ m. shifts (8 * m) i) j
