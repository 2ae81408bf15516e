-- Texts in the order of their bytes.
use Rattle.std.proofs.Common.{◌≡◌, ℕ, Bool, true, false, List, [], ◌∷◌, refl, sym, ap, ◌∙◌}
use Rattle.std.specs.Prelude.{◌||◌}
use Rattle.std.specs.BTreeSet.{insert_key}
use Rattle.std.specs.Cmp.Lexicographic.{slice_cmp}
use Rattle.std.specs.List.{AllByRecursion, fold, list_any}
use Rattle.std.specs.List.Sorted.{IsStrictlySortedBy}
use Rattle.std.specs.Ordering.{match_ordering, nat_cmp, ordering_reverse}
use Rattle.std.specs.Str.{bytes_eq}
use Rattle.std.specs.declared.cmp.Ordering.{Ordering}
use Rattle.std.specs.declared.cmp.Ordering.TheVariants.{Less, Equal, Greater}
use Rattle.std.proofs.lemmas.Cmp.{nat_list_cmp_total}
use Rattle.std.proofs.lemmas.Map.Keys.{sorted_head, sorted_tail}
use Rattle.std.proofs.lemmas.Map.Lookups.{exact_bytes}
use Rattle.dl_sources.specs.OrderLaws.{TextsInOrder}

abbrev compare : List ℕ → List ℕ → Ordering
compare = slice_cmp nat_cmp

abbrev Above : List ℕ → List (List ℕ) → Type 0
Above x texts = AllByRecursion (λ y. compare x y ≡ Less) texts

-- what is above one text is above each text below that
above_lower : (t x : List ℕ) (texts : List (List ℕ)) → compare t x ≡ Less → Above x texts → Above t texts
above_lower t x [] less above = above
above_lower t x (y ∷ texts) less above =
    (nat_list_cmp_total.trans t x y less above.0, above_lower t x texts less above.1)

above_insert : (x t : List ℕ) (texts : List (List ℕ)) → compare x t ≡ Less → Above x texts
    → Above x (insert_key compare texts t)
above_insert x t [] less above = (less, above)
above_insert x t (y ∷ texts) less above = by (compare t y) (above_insert x t texts less above.1) where
  by : (o : Ordering) → Above x (insert_key compare texts t)
      → Above x (match_ordering o (t ∷ y ∷ texts) (y ∷ texts) (y ∷ insert_key compare texts t))
  by Less later = (less, above)
  by Equal later = above
  by Greater later = (above.0, later)

sorted_cons : (x : List ℕ) (texts : List (List ℕ)) → Above x texts → IsStrictlySortedBy compare texts
    → IsStrictlySortedBy compare (x ∷ texts)
unfolding IsStrictlySortedBy
sorted_cons x texts above sorted = (above, sorted)

sorted_insert : (t : List ℕ) (texts : List (List ℕ)) → IsStrictlySortedBy compare texts
    → IsStrictlySortedBy compare (insert_key compare texts t)
sorted_insert t [] sorted = sorted_cons t [] tt sorted
sorted_insert t (x ∷ texts) sorted =
    by (compare t x) refl (sorted_insert t texts (sorted_tail compare x texts sorted)) where
      above : Above x texts
      above = sorted_head compare x texts sorted

      by : (o : Ordering) → compare t x ≡ o → IsStrictlySortedBy compare (insert_key compare texts t)
          → IsStrictlySortedBy compare (match_ordering o (t ∷ x ∷ texts) (x ∷ texts) (x ∷ insert_key compare texts t))
      by Less is later = sorted_cons t (x ∷ texts) (is, above_lower t x texts is above) sorted
      by Equal is later = sorted
      by Greater is later =
          sorted_cons x (insert_key compare texts t)
          (above_insert x t texts (nat_list_cmp_total.antisymm x t ∙ ap ordering_reverse is) above) later

sorted_after : (begun texts : List (List ℕ)) → IsStrictlySortedBy compare begun
    → IsStrictlySortedBy compare (fold (insert_key compare) begun texts)
sorted_after begun [] sorted = sorted
sorted_after begun (t ∷ texts) sorted = sorted_after (insert_key compare begun t) texts (sorted_insert t begun sorted)

-- ---- which texts there are

or_twice : (a b : Bool) → (a || (a || b)) ≡ (a || b)
or_twice true b = refl
or_twice false b = refl

or_turned : (a b c : Bool) → (a || (b || c)) ≡ (b || (a || c))
or_turned true true c = refl
or_turned true false c = refl
or_turned false b c = refl

any_insert : (text t : List ℕ) (texts : List (List ℕ))
    → list_any (bytes_eq text) (insert_key compare texts t) ≡ (bytes_eq text t || list_any (bytes_eq text) texts)
any_insert text t [] = refl
any_insert text t (x ∷ texts) = by (compare t x) refl (any_insert text t texts) where
  by : (o : Ordering) → compare t x ≡ o
      → list_any (bytes_eq text) (insert_key compare texts t) ≡ (bytes_eq text t || list_any (bytes_eq text) texts)
      → list_any (bytes_eq text) (match_ordering o (t ∷ x ∷ texts) (x ∷ texts) (x ∷ insert_key compare texts t))
      ≡ (bytes_eq text t || (bytes_eq text x || list_any (bytes_eq text) texts))
  by Less is later = refl
  by Equal is later =
      sym (or_twice (bytes_eq text x) (list_any (bytes_eq text) texts))
      ∙ ap (λ (y : List ℕ). bytes_eq text y || (bytes_eq text x || list_any (bytes_eq text) texts)) (sym (exact_bytes t x is))
  by Greater is later =
      ap (λ b. bytes_eq text x || b) later ∙ or_turned (bytes_eq text x) (bytes_eq text t) (list_any (bytes_eq text) texts)

any_after : (text : List ℕ) (begun texts : List (List ℕ))
    → list_any (bytes_eq text) (fold (insert_key compare) begun texts)
    ≡ (list_any (bytes_eq text) texts || list_any (bytes_eq text) begun)
any_after text begun [] = refl
any_after text begun (t ∷ texts) =
    any_after text (insert_key compare begun t) texts
    ∙ ap (λ b. list_any (bytes_eq text) texts || b) (any_insert text t begun)
    ∙ or_moved (list_any (bytes_eq text) texts) (bytes_eq text t) (list_any (bytes_eq text) begun) where
      or_moved : (a b c : Bool) → (a || (b || c)) ≡ ((b || a) || c)
      or_moved true true c = refl
      or_moved true false c = refl
      or_moved false true c = refl
      or_moved false false c = refl

or_false : (a : Bool) → (a || false) ≡ a
or_false true = refl
or_false false = refl

sorted_none : IsStrictlySortedBy compare []
unfolding IsStrictlySortedBy
sorted_none = tt

pub texts_in_order : TextsInOrder
texts_in_order texts = (
  sorted_after [] texts sorted_none,
  λ text. any_after text [] texts ∙ or_false (list_any (bytes_eq text) texts),
)
