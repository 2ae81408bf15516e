-- Items of a table, and of tables one after the other.
use Rattle.std.proofs.Common.{◌≡◌, ℕ, ◌+◌, ◌*◌, ◌/◌, ◌≤◌, List, ◌++◌, take, drop, length, arith, ap, ◌∙◌}
use Rattle.std.proofs.Common.{length-append, length-drop}
use Rattle.std.proofs.lemmas.List.{drop-append-le, take-append-le}
use Rattle.std.proofs.Math.Nat.{add-mul, mul-add-div_right, mul-div_cancel}
use Rattle.std.proofs.Math.Seq.{drop-append-add}
use Rattle.dl_reloc.specs.Entries.{count, item}

-- an item of the first part
pub front_item : (size i : ℕ) (xs ys : List ℕ) → i * size + size ≤ length xs → item size i (xs ++ ys) ≡ item size i xs
front_item size i xs ys within =
    let left = length-drop (i * size) xs in
    ap (take size) (drop-append-le (i * size) xs ys (omega (arith, within)))
    ∙ take-append-le size (drop (i * size) xs) ys (omega (arith, within, left))

-- an item of the second
pub back_item : (size m i : ℕ) (xs ys : List ℕ) → length xs ≡ m * size → item size (i + m) (xs ++ ys) ≡ item size i ys
back_item size m i xs ys whole =
    let at : (i + m) * size ≡ length xs + i * size = omega (arith, add-mul i m size, whole) in
    ap (λ k. take size (drop k (xs ++ ys))) at ∙ ap (take size) (drop-append-add xs ys (i * size))

-- how many items a table of whole ones has
pub count_whole : (size m : ℕ) (xs : List ℕ) → 1 ≤ size → length xs ≡ m * size → count size xs ≡ m
count_whole size m xs some whole = ap (λ k. k / size) whole ∙ mul-div_cancel m some

-- and with others after them
pub count_parts : (size m : ℕ) (xs ys : List ℕ) → 1 ≤ size → length xs ≡ m * size
    → count size (xs ++ ys) ≡ count size ys + m
count_parts size m xs ys some whole =
    let sum : length (xs ++ ys) ≡ m * size + length ys = length-append xs ys ∙ ap (λ k. k + length ys) whole in
    let more : count size (xs ++ ys) ≡ m + count size ys =
    ap (λ k. k / size) sum ∙ mul-add-div_right some m (length ys) in
    omega (arith, more)
