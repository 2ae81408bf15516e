-- Texts that were copied.
use Rattle.std.proofs.Common.{◌≡◌, ◌∙◌, ℕ, List, Bor, Vec, Global, map, Option, Some, Result, Ok, Err, ap, refl, drop, [], ◌∷◌}
use Rattle.std.specs.Prelude.{IfOk, unwrap_or}
use Rattle.clap.specs.Words.{Text}

-- texts that were copied
pub texts_copied : {E : Type 0} (found : List (Bor (List ℕ))) (rows : Option (List Text))
    (r : Result (Vec (Bor (List ℕ)) Global) E) → IfOk r (λ v. v.items ≡ found) → Some (map (λ s. s.now) found) ≡ rows
    → IfOk r (λ v. map (λ s. s.now) v.items ≡ unwrap_or rows [])
texts_copied found rows (Ok v) copied said =
    ap (λ (l : List (Bor (List ℕ))). map (λ s. s.now) l) copied
    ∙ ap (λ (o : Option (List Text)). unwrap_or o []) said
texts_copied found rows (Err error) copied said = tt

map_drop : (found : List (Bor (List ℕ))) → map (λ s. s.now) (drop 1 found) ≡ drop 1 (map (λ s. s.now) found)
map_drop [] = refl
map_drop (first ∷ others) = refl

-- the same of those after the first one
pub others_copied : {E : Type 0} (found others : List (Bor (List ℕ))) (rows : Option (List Text))
    (r : Result (Vec (Bor (List ℕ)) Global) E) → IfOk r (λ v. v.items ≡ others) → others ≡ drop 1 found
    → Some (map (λ s. s.now) found) ≡ rows → IfOk r (λ v. map (λ s. s.now) v.items ≡ drop 1 (unwrap_or rows []))
others_copied found others rows (Ok v) copied are said =
    ap (λ (l : List (Bor (List ℕ))). map (λ s. s.now) l) (copied ∙ are)
    ∙ map_drop found ∙ ap (λ (o : Option (List Text)). drop 1 (unwrap_or o [])) said
others_copied found others rows (Err error) copied are said = tt
