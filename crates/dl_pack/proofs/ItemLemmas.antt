-- Items of one size, one after the other, and the numbers of a column.
use Rattle.std.proofs.Common.{◌≡◌, ℕ, zero, suc, ◌+◌, ◌*◌, ◌<◌, ◌^◌, List, [], ◌∷◌, ◌++◌, length, take, drop, get_or}
use Rattle.std.proofs.Common.{refl, sym, ap, ◌∙◌, arith, length-append}
use Rattle.std.specs.List.{flat_map}
use Rattle.std.proofs.Math.Seq.{drop-nil, drop-append-add, take-append_seam}
use Rattle.dl_num.specs.Fixed.{little, little_bytes}
use Rattle.dl_num.specs.declared.fixed.Order.TheVariants.{Little}
use Rattle.dl_num.proofs.FixedLaws.{fixed_reads_back, fixed_has_its_size}
use Rattle.dl_index.specs.Columns.{number_at}
use Rattle.dl_pack.specs.Columns.{column_bytes}

pub drop_sum : (n m : ℕ) (b : List ℕ) → drop (n + m) b ≡ drop m (drop n b)
drop_sum zero m b = let e : 0 + m ≡ m = omega arith in ap (λ k. drop k b) e
drop_sum (suc n) m [] = drop-nil (suc n + m) ∙ sym (drop-nil m)
drop_sum (suc n) m (x ∷ b) =
    let e : suc n + m ≡ suc (n + m) = omega arith in ap (λ k. drop k (x ∷ b)) e ∙ drop_sum n m b

pub drop_at : {A : Type 0} (xs : List A) (k : ℕ) (d : A) → k < length xs → drop k xs ≡ get_or xs k d ∷ drop (suc k) xs
drop_at [] k d lt = absurd (omega arith)
drop_at (x ∷ xs) zero d lt = refl
drop_at (x ∷ xs) (suc k) d lt = drop_at xs k d (omega arith)

drop_items : {A : Type 0} (f : A → List ℕ) (size : ℕ) → ((x : A) → length (f x) ≡ size) → (k : ℕ) (xs : List A)
    → drop (k * size) (flat_map f xs) ≡ flat_map f (drop k xs)
drop_items f size is zero xs = let e : 0 * size ≡ 0 = omega arith in ap (λ n. drop n (flat_map f xs)) e
drop_items f size is (suc k) [] = drop-nil (suc k * size)
drop_items f size is (suc k) (x ∷ xs) =
    let e : suc k * size ≡ length (f x) + k * size = omega (arith, is x) in
    ap (λ n. drop n (f x ++ flat_map f xs)) e ∙ drop-append-add (f x) (flat_map f xs) (k * size)
    ∙ drop_items f size is k xs

-- the item k and those after it
pub items_from : {A : Type 0} (f : A → List ℕ) (size : ℕ) → ((x : A) → length (f x) ≡ size) → (xs : List A) (k : ℕ) (d : A)
    → k < length xs → drop (k * size) (flat_map f xs) ≡ f (get_or xs k d) ++ flat_map f (drop (suc k) xs)
items_from f size is xs k d lt = drop_items f size is k xs ∙ ap (flat_map f) (drop_at xs k d lt)

pub items_len : {A : Type 0} (f : A → List ℕ) (size : ℕ) → ((x : A) → length (f x) ≡ size) → (xs : List A)
    → length (flat_map f xs) ≡ length xs * size
items_len f size is [] = omega arith
items_len f size is (x ∷ xs) =
    length-append (f x) (flat_map f xs) ∙ omega (arith, is x, items_len f size is xs)

pub size_is : (size n : ℕ) → length (little_bytes size n) ≡ size
size_is size n = fixed_has_its_size Little size n

-- a number at the front of bytes
pub number_first : (size n : ℕ) (rest : List ℕ) → n < 256 ^ size → little (take size (little_bytes size n ++ rest)) ≡ n
number_first size n rest lt =
    ap (λ k. little (take k (little_bytes size n ++ rest))) (sym (size_is size n))
    ∙ ap little (take-append_seam (little_bytes size n) rest) ∙ fixed_reads_back Little size n lt

-- number k of a column
pub number_in_column : (size : ℕ) (numbers : List ℕ) (k : ℕ) → k < length numbers → get_or numbers k 0 < 256 ^ size
    → number_at size (column_bytes size numbers) k ≡ get_or numbers k 0
number_in_column size numbers k lt small =
    ap (λ b. little (take size b)) (items_from (little_bytes size) size (size_is size) numbers k 0 lt)
    ∙ number_first size (get_or numbers k 0) (column_bytes size (drop (suc k) numbers)) small
