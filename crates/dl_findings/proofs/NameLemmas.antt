-- The first element that passes.
use Rattle.std.proofs.Common.{◌≡◌, ◌∙◌, ℕ, ◌+◌, ◌<◌, List, [], ◌∷◌, Bool, true, false, Option, Some, None, ap, cond, drop, length, sym, take}
use Rattle.std.specs.List.{find}
use Rattle.std.specs.Option.{option_or}
use Rattle.std.specs.Prelude.{slice_index_or}
use Rattle.std.proofs.lemmas.List.{drop_more, take_more}
use Rattle.std.proofs.lemmas.List.Folds.{find-append}
use Rattle.std.proofs.Math.ListN.{take-append-drop}

module _ {X : Type 0} (p : X → Bool) (xs : List X) (i : ℕ) (d : X) (within : i < length xs) (none : find p (take i xs) ≡ None) where
  -- it is the next
  pub found_next : p (slice_index_or xs i d) ≡ true → find p xs ≡ Some (slice_index_or xs i d)
  found_next passes =
      ap (find p) (sym (take-append-drop i xs)) ∙ find-append p (take i xs) (drop i xs)
      ∙ ap (λ (o : Option X). option_or o (find p (drop i xs))) none
      ∙ ap (find p) (drop_more xs i d within)
      ∙ ap (λ (b : Bool). cond b (Some (slice_index_or xs i d)) (find p (drop (i + 1) xs))) passes

  -- and neither the next
  pub none_next : p (slice_index_or xs i d) ≡ false → find p (take (i + 1) xs) ≡ None
  none_next fails =
      ap (find p) (take_more xs i d within) ∙ find-append p (take i xs) (slice_index_or xs i d ∷ [])
      ∙ ap (λ (o : Option X). option_or o (find p (slice_index_or xs i d ∷ []))) none
      ∙ ap (λ (b : Bool). cond b (Some (slice_index_or xs i d)) None) fails
