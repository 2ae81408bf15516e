-- The memory that the making of an index wants is within its room.
use Rattle.std.proofs.Common.{◌≡◌, ℕ, ◌≤◌, ap, arith, ◌∙◌, sym, Result, Err}
use Rattle.dl_memory.specs.Refusals.{IsRefused}

-- memory that was refused for fewer was so for no more than these
pub at_most : (refuses : ℕ → Type 0) (n most : ℕ) → n ≤ most → IsRefused refuses n → IsRefused refuses most
at_most refuses n most within (k, le, refused) = (k, omega arith, refused)

-- an error that was passed on
pub err_same : {A B E : Type 0} (r : Result A E) (q : Result B E) (x f e : E) → q ≡ Err x → x ≡ f → q ≡ Err e
    → r ≡ Err f → r ≡ Err e
err_same {E = E} r q x f e told from is was =
    let same : x ≡ e = cc in
    was ∙ ap (λ (z : E). Err z) (sym from ∙ same)
