-- The columns of an index, as they are kept.
use Rattle.std.proofs.Common.{◌≡◌, ℕ, ◌≤◌, List, sym, ap, ap₂, subst, arith}
use Rattle.dl_index.specs.Columns.{number_at}
use Rattle.dl_index.specs.Entries.{entry}
use Rattle.dl_index.specs.Layout.{width_in, part}
use Rattle.dl_index.specs.LookUp.{Rise, IsLastUpto}
use Rattle.dl_index.specs.PartsOf.{IsColumn}
use Rattle.dl_index.specs.declared.numbers.Numbers.{Numbers}

pub entries_are : {c : Numbers} {b : List ℕ} {k : ℕ} → IsColumn c b k → entry c ≡ number_at (width_in b k) (part b k)
entries_are is = ap₂ number_at is.width is.bytes

pub entry_is : {c : Numbers} {b : List ℕ} {i : ℕ} → IsColumn c b i → (k : ℕ)
    → entry c k ≡ number_at (width_in b i) (part b i) k
entry_is is k = ap (λ f. f k) (entries_are is)

-- the last one of the same starts
pub last_of_same : (start start' : ℕ → ℕ) (count count' x x' r : ℕ) → start ≡ start' → count ≡ count' → x ≡ x'
    → (Rise start count → start 0 ≤ x → IsLastUpto start count x r) → Rise start' count' → start' 0 ≡ 0
    → IsLastUpto start' count' x' r
last_of_same start start' count count' x x' r starts counts same last rise first =
    let zero_upto : start' 0 ≤ x = omega arith in
    subst
    (λ n. IsLastUpto start' n x' r)
    counts
    (subst
    (λ y. IsLastUpto start' count y r)
    same
    (subst
    (λ s. Rise s count → s 0 ≤ x → IsLastUpto s count x r)
    starts
    last
    (subst (λ n. Rise start' n) (sym counts) rise)
    zero_upto))
