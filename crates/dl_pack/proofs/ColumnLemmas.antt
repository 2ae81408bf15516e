-- Columns and bits, one number more.
use Rattle.std.proofs.Common.{◌≡◌, ℕ, zero, suc, ◌+◌, List, [], ◌∷◌, ◌++◌, max}
use Rattle.std.proofs.Common.{arith, refl, ap, ◌∙◌}
use Rattle.std.specs.List.{range_with_len}
use Rattle.dl_pack.specs.Columns.{greatest}

pub greatest_push : (numbers : List ℕ) (n : ℕ) → greatest (numbers ++ n ∷ []) ≡ max n (greatest numbers)
greatest_push [] n = refl
greatest_push (m ∷ numbers) n = ap (max m) (greatest_push numbers n) ∙ omega arith

pub range_push : (a n : ℕ) → range_with_len a (n + 1) ≡ range_with_len a n ++ (a + n) ∷ []
range_push a zero = ap (λ b. b ∷ []) (omega arith)
range_push a (suc n) =
    let e : suc n + 1 ≡ suc (n + 1) = omega arith in
    let s : a + 1 + n ≡ a + suc n = omega arith in
    ap (range_with_len a) e ∙ ap (λ rest. a ∷ rest) (range_push (a + 1) n ∙ ap (λ b. range_with_len (a + 1) n ++ b ∷ []) s)
