-- The places of the least line of two lists.
use Rattle.std.proofs.Common.{◌≡◌, ◌≢◌, ℕ, Bool, true, false, List, [], ◌∷◌, ◌++◌, length, map, refl, sym, ap, ap₂, ◌∙◌, arith}
use Rattle.std.specs.Prelude.{⊤, OnOk, Result, Ok, Err, nat_lt, if◌then◌else◌}
use Rattle.std.proofs.lemmas.Bool.Decides.{nat_tests}
use Rattle.dl_lines.specs.declared.best.Best.{Best}
use Rattle.dl_lines.specs.declared.best.KeptPlace.{KeptPlace}
use Rattle.dl_lines.specs.Places.{CodePlace}
use Rattle.dl_lines.specs.Kept.{both, is_below_line, place_kept, places_kept}

-- what is known of a success, and what follows from it
pub on_ok : {P Q E : Type 0} (result : Result ⊤ E) → OnOk result P → (P → Q) → OnOk result Q
on_ok (Ok done) known f = f known
on_ok (Err e) known f = tt

pub both_none : (places : List CodePlace) → both places [] ≡ places
both_none [] = refl
both_none (p ∷ places) = refl

map_both : (paths : List (List ℕ)) (line : ℕ) (a b : List KeptPlace)
    → map (place_kept paths line) (a ++ b) ≡ map (place_kept paths line) a ++ map (place_kept paths line) b
map_both paths line [] b = refl
map_both paths line (p ∷ a) b = ap (λ (l : List CodePlace). place_kept paths line p ∷ l) (map_both paths line a b)

module _ (paths : List (List ℕ)) where
  -- places of a greater line
  pub stays_below : (best : Best) (line : ℕ) (others : List KeptPlace) → is_below_line best line ≡ true
      → places_kept paths best ≡ both (places_kept paths best) (map (place_kept paths line) others)
  stays_below best line others below = by best.places.items refl others where
    by : (items : List KeptPlace) → best.places.items ≡ items → (others : List KeptPlace)
        → map (place_kept paths best.line) items
        ≡ both (map (place_kept paths best.line) items) (map (place_kept paths line) others)
    by [] is others = absurd (nothing is below) where
      nothing : best.places.items ≡ [] → is_below_line best line ≡ true → ⊥
      nothing is below = (let e = ap length is in grind (arith, nat_tests, e, below))
    by (p ∷ items) is [] = refl
    by (p ∷ items) is (q ∷ others) =
        let lt : nat_lt best.line line ≡ true = grind (arith, nat_tests, below) in
        sym (ap (λ (b : Bool). if b then map (place_kept paths best.line) (p ∷ items)
        else if nat_lt line best.line then map (place_kept paths line) (q ∷ others)
        else map (place_kept paths best.line) (p ∷ items) ++ map (place_kept paths line) (q ∷ others)) lt)

  -- of the same line, or of a lesser one
  pub joins : (best new : Best) (line : ℕ) (q : KeptPlace) (others : List KeptPlace) → is_below_line best line ≡ false
      → new.line ≡ line
      → new.places.items ≡ (if nat_lt line best.line then [] else best.places.items) ++ q ∷ others
      → places_kept paths new ≡ both (places_kept paths best) (map (place_kept paths line) (q ∷ others))
  joins best new line q others below is_line is =
      ap₂ (λ (n : ℕ) (l : List KeptPlace). map (place_kept paths n) l) is_line is ∙ by best.places.items refl where
        told : List CodePlace
        told = map (place_kept paths line) (q ∷ others)

        by : (items : List KeptPlace) → best.places.items ≡ items
            → map (place_kept paths line) ((if nat_lt line best.line then [] else items) ++ q ∷ others)
            ≡ both (map (place_kept paths best.line) items) told
        by [] e = none (nat_lt line best.line) where
          none : (b : Bool) → map (place_kept paths line) ((if b then [] else []) ++ q ∷ others) ≡ told
          none true = refl
          none false = refl
        by (p ∷ items) e = some (nat_lt line best.line) refl where
          not_above : nat_lt best.line line ≡ false
          not_above = (let n = ap length e in grind (arith, nat_tests, n, below))

          some : (b : Bool) → nat_lt line best.line ≡ b
              → map (place_kept paths line) ((if b then [] else p ∷ items) ++ q ∷ others)
              ≡ both (map (place_kept paths best.line) (p ∷ items)) told
          some true lt =
              sym (ap₂ (λ (a b : Bool). if a then map (place_kept paths best.line) (p ∷ items)
              else if b then told else map (place_kept paths best.line) (p ∷ items) ++ told) not_above lt)
          some false ge =
              let same : line ≡ best.line = grind (arith, nat_tests, not_above, ge) in
              map_both paths line (p ∷ items) (q ∷ others)
              ∙ ap (λ (n : ℕ). map (place_kept paths n) (p ∷ items) ++ told) same
              ∙ sym (ap₂ (λ (a b : Bool). if a then map (place_kept paths best.line) (p ∷ items)
              else if b then told else map (place_kept paths best.line) (p ∷ items) ++ told) not_above ge)

  -- the same of all places of another list
  pub joins_all : (best new others : Best) → length others.places.items ≢ 0
      → is_below_line best others.line ≡ false → new.line ≡ others.line
      → new.places.items ≡ (if nat_lt others.line best.line then [] else best.places.items) ++ others.places.items
      → places_kept paths new ≡ both (places_kept paths best) (places_kept paths others)
  joins_all best new others some below is_line is = by others.places.items refl where
    by : (items : List KeptPlace) → others.places.items ≡ items
        → places_kept paths new ≡ both (places_kept paths best) (map (place_kept paths others.line) items)
    by [] e = absurd (some (ap length e))
    by (q ∷ items) e =
        joins best new others.line q items below is_line
        (is ∙ ap (λ (l : List KeptPlace). (if nat_lt others.line best.line then [] else best.places.items) ++ l) e)

  pub joins_none : (best others : Best) → length others.places.items ≡ 0
      → places_kept paths best ≡ both (places_kept paths best) (places_kept paths others)
  joins_none best others none = by others.places.items none where
    by : (items : List KeptPlace) → length items ≡ 0
        → places_kept paths best ≡ both (places_kept paths best) (map (place_kept paths others.line) items)
    by [] e = sym (both_none (places_kept paths best))
    by (q ∷ items) e = absurd (omega (arith, e))
