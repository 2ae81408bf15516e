-- The paths that are tried, and the text of the first of them.
use Rattle.std.proofs.Common.{◌≡◌, ◌∙◌, ℕ, suc, false, List, [], ◌∷◌, ◌++◌, ◌+◌, length, codes, flat_map}
use Rattle.std.proofs.Common.{refl, sym, ap, arith, append_assoc, append-nil, length-append}
use Rattle.std.specs.Prelude.{◌==◌, if◌then◌else◌}
use Rattle.std.proofs.lemmas.Bool.{lt-ltb, ne_eqb}
use Rattle.std.proofs.lemmas.Grind.{flat_map-append}
use Rattle.dl_open.specs.Shown.{shown_bytes}
use Rattle.dl_follow.specs.NotFoundText.{listed, listed_first}

pub length-more : (done : List (List ℕ)) (path : List ℕ) (told : ℕ) → length done ≡ told → length (done ++ path ∷ []) ≡ told + 1
length-more done path told is = omega (arith, is, length-append done (path ∷ []))

-- what stands before a path
abbrev pub comma : (told : ℕ) → List ℕ
comma told = if told == 0 then [] else codes ", "

nat_eq-suc : (n : ℕ) → (suc n == 0) ≡ false
nat_eq-suc n = ne_eqb (suc n) 0 (λ same. absurd (omega (arith, same)))

pub listed_more : (done : List (List ℕ)) (path : List ℕ)
    → listed (done ++ path ∷ []) ≡ listed done ++ (comma (length done) ++ shown_bytes path)
listed_more [] path = append-nil (shown_bytes path)
listed_more (first ∷ done) path = rw (nat_eq-suc (length done)) (
    ap (λ (l : List ℕ). shown_bytes first ++ l) (flat_map-append (λ other. codes ", " ++ shown_bytes other) done (path ∷ [])
    ∙ ap (λ (l : List ℕ). flat_map (λ other. codes ", " ++ shown_bytes other) done ++ l) (append-nil (codes ", " ++ shown_bytes path)))
    ∙ sym (append_assoc (shown_bytes first) (flat_map (λ other. codes ", " ++ shown_bytes other) done) (codes ", " ++ shown_bytes path)))

-- there are more than three
pub listed_cut : (done : List (List ℕ)) (path : List ℕ) (others : List (List ℕ)) → length done ≡ 3
    → listed_first (done ++ path ∷ others) ≡ listed done ++ codes ", .."
listed_cut [] path others three = absurd cc
listed_cut (a ∷ []) path others three = absurd cc
listed_cut (a ∷ b ∷ []) path others three = absurd cc
listed_cut (a ∷ b ∷ c ∷ []) path others three =
    rw (lt-ltb 3 (length (a ∷ b ∷ c ∷ path ∷ others)) (omega arith)) refl
listed_cut (a ∷ b ∷ c ∷ d ∷ done) path others three = absurd (omega (arith, three))
