-- What was found of many addresses, one after the other.
use Rattle.std.proofs.Common.{◌≡◌, ℕ, ◌+◌, ◌<◌, List, Option, length, get_or, subst, sym, arith, ⊎_elim}
use Rattle.std.proofs.Math.ListN.{set}
use Rattle.std.proofs.lemmas.List.{get_or-set_same, get_or-set_other}
use Rattle.std.proofs.lemmas.Bool.{cases_eq}
use Rattle.dl_index.specs.Finds.{Finds}
use Rattle.dl_index.specs.declared.index.FoundLine.{FoundLine}

-- the first n are those of the first n addresses
abbrev pub Done : List ℕ → List ℕ → List (Option FoundLine) → ℕ → Type 0
Done b addresses found n = (i : ℕ) → i < n → (d : Option FoundLine) → Finds b (get_or addresses i 0) (get_or found i d)

pub done_more : (b addresses : List ℕ) (found : List (Option FoundLine)) (n m : ℕ) (one : Option FoundLine) → m ≡ n + 1
    → n < length found → Finds b (get_or addresses n 0) one → Done b addresses found n
    → Done b addresses (set found n one) m
done_more b addresses found n m one next within here done i less d =
    ⊎_elim
    (λ same.
    subst
    (λ j. Finds b (get_or addresses j 0) (get_or (set found n one) j d))
    same
    (subst (Finds b (get_or addresses n 0)) (sym (get_or-set_same found n one d within)) here))
    (λ ne.
    subst
    (Finds b (get_or addresses i 0))
    (sym (get_or-set_other found n i one d (λ e. ne (sym e))))
    (done i (omega arith) d))
    (cases_eq n i)
