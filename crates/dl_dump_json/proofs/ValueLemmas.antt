-- The values of an entry, one after the other.
use Rattle.std.proofs.Common.{◌≡◌, ℕ, List, [], ◌∷◌, ◌++◌, sym, ap, ◌∙◌, append_assoc}
use Rattle.std.proofs.lemmas.List.{append-nil}
use Rattle.std.proofs.lemmas.Grind.{flat_map-append}
use Rattle.std.specs.List.{flat_map}
use Rattle.dl_table.specs.Value.{Value}
use Rattle.dl_print.specs.ValueText.{Strings}
use Rattle.dl_dump_json.specs.Values.{value_member}

module _ (s : Strings) (done : List (ℕ × Value)) (item : ℕ × Value) where
  pub values_more : flat_map (value_member s) (done ++ item ∷ []) ≡ flat_map (value_member s) done ++ value_member s item
  values_more =
      flat_map-append (value_member s) done (item ∷ [])
      ∙ ap (λ (l : List ℕ). flat_map (value_member s) done ++ l) (append-nil (value_member s item))

  pub values_split : (left : List (ℕ × Value)) → flat_map (value_member s) (done ++ item ∷ left)
      ≡ flat_map (value_member s) done ++ value_member s item ++ flat_map (value_member s) left
  values_split left =
      flat_map-append (value_member s) done (item ∷ left)
      ∙ sym (append_assoc (flat_map (value_member s) done) (value_member s item) (flat_map (value_member s) left))
