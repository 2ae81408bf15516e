-- Pieces of a file that are read one after the other.
use Rattle.std.proofs.Common.{◌≡◌, ◌≤◌, ◌+◌, ◌-◌, ℕ, List, ◌++◌, length, take, drop, sym, ap, ◌∙◌, arith}
use Rattle.std.proofs.Common.{length-drop, length-take}
use Rattle.std.proofs.lemmas.List.{length-take-le}
use Rattle.std.proofs.Math.Seq.{take-add}

-- how many bytes came
pub piece_len : (f piece : List ℕ) (offset n m : ℕ) → n ≤ length piece → take n piece ≡ take m (drop offset f)
    → (length (drop offset f) ≤ m → length f - offset ≡ n) × (n ≤ m) × (n ≤ length f - offset)
piece_len f piece offset n m within is =
    let len : length (take m (drop offset f)) ≡ n = ap length (sym is) ∙ length-take-le n piece within in
    let rest = length-drop offset f in
    let front = length-take m (drop offset f) in
    ((λ few. omega (arith, len, rest, front, few)), omega (arith, len, rest, front), omega (arith, len, rest, front))

-- one more piece
pub next_piece : (f piece : List ℕ) (offset m : ℕ) → take m piece ≡ take m (drop offset f)
    → take offset f ++ take m piece ≡ take (offset + m) f
next_piece f piece offset m is = ap (λ xs. take offset f ++ xs) is ∙ sym (take-add offset m f)
