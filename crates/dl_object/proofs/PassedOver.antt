-- What `pass_over` makes of bytes.
use Rattle.std.proofs.Common.{◌≡◌, ℕ, zero, suc, ◌+◌, ◌-◌, ◌≤◌, ◌%◌, List, [], ◌∷◌, ◌++◌, length, get_or, set, replicate}
use Rattle.std.proofs.Common.{take, drop, length-append, refl, sym, ap, subst, ◌∙◌, arith}
use Rattle.std.proofs.lemmas.List.{length-replicate}
use borrow.Rule.Slice.PartMut.{put_mid}
use Rattle.dl_object.specs.Kept.{padded_one, passed_over}
use Rattle.dl_object.proofs.PartLemmas.{PutIn, part_len, put_in}

-- bytes of which the one at i ends a number
abbrev pub ended : List ℕ → ℕ → List ℕ
ended w i = set w i (get_or w i 0 % 128)

continued : (k : ℕ) → ended (128 ∷ replicate (suc k) 128) k ≡ (replicate k 128 ++ 0 ∷ []) ++ 128 ∷ []
continued zero = refl
continued (suc k) = ap (λ (w : List ℕ). 128 ∷ w) (continued k)

one : (m : ℕ) → ended (129 ∷ 128 ∷ replicate m 128) m ≡ padded_one (suc m) ++ 128 ∷ []
one zero = refl
one (suc k) = ap (λ (w : List ℕ). 129 ∷ w) (continued k)

three : (m : ℕ) → ended (set (set (replicate (suc (suc (suc m))) 128) 0 0) 1 129) (suc m)
    ≡ passed_over (suc (suc (suc m)))
three m = ap (λ (w : List ℕ). 0 ∷ w) (one m)

pub passed : (filled : List ℕ) (n i m : ℕ) → n ≡ suc (suc (suc m)) → i ≡ suc m → filled ≡ replicate n 128
    → ended (set (set filled 0 0) 1 129) i ≡ passed_over n
passed filled n i m e j f =
    subst (λ (z : List ℕ). ended (set (set z 0 0) 1 129) i ≡ passed_over n) (sym f)
    (subst (λ (k : ℕ). ended (set (set (replicate n 128) 0 0) 1 129) k ≡ passed_over n) (sym j)
    (subst (λ (k : ℕ). ended (set (set (replicate k 128) 0 0) 1 129) (suc m) ≡ passed_over k) (sym e) (three m)))

length_padded : (n : ℕ) → length (padded_one n) ≡ n
length_padded zero = refl
length_padded (suc zero) = refl
length_padded (suc (suc n)) =
    let sum = length-append {A = ℕ} (129 ∷ replicate n 128) (0 ∷ []) in
    let size = length-replicate {A = ℕ} n 128 in
    omega (arith, sum, size)

pub length_passed : (n : ℕ) → length (passed_over (suc (suc n))) ≡ suc (suc n)
length_passed n =
    let sum = length-append {A = ℕ} (0 ∷ padded_one n) (128 ∷ []) in
    let size = length_padded n in
    omega (arith, sum, size)

pub length_passed_over : (n : ℕ) → 3 ≤ n → length (passed_over n) ≡ n
length_passed_over n le =
    let e : n ≡ suc (suc (n - 2)) = omega arith in
    subst (λ (k : ℕ). length (passed_over k) ≡ k) (sym e) (length_passed (n - 2))

pub passed_in : (bytes ys : List ℕ) (at len : ℕ) → 3 ≤ len → at ≤ length bytes → len ≤ length (drop at bytes)
    → ys ≡ passed_over (length (take (at + len - at) (drop at bytes)))
    → PutIn bytes (passed_over len) (put_mid at (at + len - at) bytes ys) at len
passed_in bytes ys at len long le room e =
    let made : ys ≡ passed_over len = e ∙ ap passed_over (part_len bytes at len room) in
    subst (λ (z : List ℕ). PutIn bytes (passed_over len) (put_mid at (at + len - at) bytes z) at len) (sym made)
    (put_in bytes (passed_over len) at len le room (length_passed_over len long))
