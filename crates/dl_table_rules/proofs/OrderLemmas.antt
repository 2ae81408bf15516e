-- Entries in order, and the first of those that are the same.
use Rattle.std.proofs.Common.{◌≡◌, ◌∙◌, ℕ, ◌+◌, ◌<◌, ◌≤◌, Bool, true, false, true≢false, List, [], ◌∷◌, ◌++◌, length, Option, Some, None}
use Rattle.std.proofs.Common.{refl, sym, ap, ap₂, arith, inl, inr, map, get_or}
use Rattle.std.specs.Prelude.{cond, nat_lt, not, ◌&&◌, ◌==◌, slice_get, option_map}
use Rattle.std.proofs.lemmas.Bool.{cases_Bool, ltb-false, ltb-true}
use Rattle.std.proofs.lemmas.Bool.Decides.{Decides-and, Decides-eqb, Decides-like}
use Rattle.std.proofs.lemmas.Map.Lookups.{CmpEqualImpliesEq, exact_bytes, exact_pairs, exact_unsigned}
use Rattle.std.proofs.lemmas.Option.{get_or_from_slice_get, slice_get-get_or, slice_get-map, slice_get_within}
use Rattle.std.proofs.lemmas.List.Sorted.{ranks_by, sorted_far}
use Rattle.dl_table_rules.proofs.FirstLemmas.{first_at, none_of, same_find, some_found}
use Rattle.std.specs.Bool.{Decides}
use Rattle.std.specs.Cmp.{alike_right, tied_itself}
use Rattle.std.specs.Cmp.Lexicographic.{slice_cmp}
use Rattle.std.specs.List.{find, range_with_len}
use Rattle.std.specs.List.Sorted.{IsPartitionPoint, IsPartitionedBy, IsSorted, ties}
use Rattle.std.specs.Option.{option_eq}
use Rattle.std.specs.Ordering.{is_eq, is_gt, is_lt, nat_cmp, ordering_reverse, ordering_then}
use Rattle.std.specs.declared.cmp.Ordering.{Ordering}
use Rattle.std.specs.declared.cmp.Ordering.TheVariants.{Less, Equal, Greater}
use Rattle.dl_table.specs.declared.table.Pair.{Pair}
use Rattle.dl_table.specs.declared.table.entry.Entry.{Entry}
use Rattle.dl_table.specs.EntryData.{with_content}
use Rattle.dl_table.specs.EntryHeld.{entry_items}
use Rattle.dl_table.specs.Equal.{same_value}
use Rattle.dl_table.specs.EqualLaws.{lists_Decides, same_value-Decides}
use Rattle.dl_table.specs.Value.{Value, text, line_str, str, str_sup, number, block, data16}
use Rattle.dl_table_rules.specs.Duplicates.{same_at, same_entry, same_item}
use Rattle.dl_table_rules.specs.Ordering.{AreAt, AreOrdered, at_cmp, bytes_of, entry_cmp, item_cmp, items_at, kind_of, number_of, value_cmp}
use Rattle.dl_table_rules.specs.OrderLaws.{at_total, entry_total}
use Rattle.dl_table_rules.specs.declared.entry_order.EntryAt.{EntryAt}

-- ---- lists of entries

-- an entry more
pub at-push : (entries : List (List (ℕ × Value))) (place : ℕ) (es : List EntryAt) (e : EntryAt) → AreAt entries place es
    → e.place ≡ place + length es → slice_get entries (place + length es) ≡ Some (items_at e)
    → AreAt entries place (es ++ e ∷ [])
at-push entries place [] e are stands is =
    let n : place + 0 ≡ place = omega arith in
    (stands ∙ n, ap (slice_get entries) (sym n) ∙ is, tt)
at-push entries place (d ∷ es) e are stands is =
    let n : place + 1 + length es ≡ place + length (d ∷ es) = omega arith in
    (are.0, are.1, at-push entries (place + 1) es e are.2 (stands ∙ sym n) (ap (slice_get entries) n ∙ is))

pub entry_is : (pairs : List Pair) (entries : List (List Value)) (place : ℕ) (e : Entry)
    → Some (entry_items e) ≡ option_map (with_content pairs) (slice_get entries place)
    → slice_get (map (with_content pairs) entries) place ≡ Some (entry_items e)
entry_is pairs entries place e is = slice_get-map (with_content pairs) entries place ∙ sym is

pub none_left : (pairs : List Pair) (entries : List (List Value)) (place : ℕ)
    → None ≡ option_map (with_content pairs) (slice_get entries place) → length entries ≤ place
none_left pairs entries place none = elim (cases_Bool (nat_lt place (length entries))) [
  | inl within ↦
      absurd (let some = slice_get-get_or entries place [] (ltb-true place (length entries) within) in
      let clash : None ≡ Some (with_content pairs (get_or entries place [])) = none ∙ ap (option_map (with_content pairs)) some in cc)
  | inr out ↦ ltb-false place (length entries) out
]

-- ---- none are equal but the same

both_equal : (a b : Ordering) → ordering_then a b ≡ Equal → (a ≡ Equal) × (b ≡ Equal)
both_equal Less b e = absurd (true≢false (ap is_lt e))
both_equal Equal b e = (refl, e)
both_equal Greater b e = absurd (true≢false (ap is_gt e))

of_parts : (v w : Value) → kind_of v ≡ kind_of w → number_of v ≡ number_of w → bytes_of v ≡ bytes_of w → v ≡ w
of_parts (text v) (text w) k n b = ap text b
of_parts (line_str v) (line_str w) k n b = ap line_str n
of_parts (str v) (str w) k n b = ap str n
of_parts (str_sup v) (str_sup w) k n b = ap str_sup n
of_parts (number v) (number w) k n b = ap number n
of_parts (block v) (block w) k n b = ap block b
of_parts (data16 v) (data16 w) k n b = ap data16 b
of_parts v w k n b = absurd (omega (arith, k))

exact_values : CmpEqualImpliesEq value_cmp
exact_values v w e =
    let both = both_equal (ordering_then (nat_cmp (kind_of v) (kind_of w)) (nat_cmp (number_of v) (number_of w)))
    (slice_cmp nat_cmp (bytes_of v) (bytes_of w)) e in
    let numbers = both_equal (nat_cmp (kind_of v) (kind_of w)) (nat_cmp (number_of v) (number_of w)) both.0 in
    of_parts v w (exact_unsigned (kind_of v) (kind_of w) numbers.0) (exact_unsigned (number_of v) (number_of w) numbers.1)
    (exact_bytes (bytes_of v) (bytes_of w) both.1)

exact_lists : {X : Type 0} (R : X → X → Ordering) → CmpEqualImpliesEq R → CmpEqualImpliesEq (slice_cmp R)
exact_lists R exact [] [] e = refl
exact_lists R exact [] (y ∷ ys) e = absurd (true≢false (ap is_lt e))
exact_lists R exact (x ∷ xs) [] e = absurd (true≢false (ap is_gt e))
exact_lists R exact (x ∷ xs) (y ∷ ys) e =
    let both = both_equal (R x y) (slice_cmp R xs ys) e in
    ap₂ (λ a l. a ∷ l) (exact x y both.0) (exact_lists R exact xs ys both.1)

exact_entries : CmpEqualImpliesEq entry_cmp
exact_entries = exact_lists item_cmp (exact_pairs nat_cmp value_cmp exact_unsigned exact_values)

same_item-Decides : (i j : ℕ × Value) → Decides (same_item i j) (i ≡ j)
same_item-Decides i j =
    Decides-like (same_item i j) (λ h. λ k. (h.0 k, h.1 k)) (λ e. (ap (λ x. x.0) e, ap (λ x. x.1) e))
    (Decides-and (i.0 == j.0) (same_value i.1 j.1) (Decides-eqb i.0 j.0) (same_value-Decides i.1 j.1))

same_entry-Decides : (a b : List (ℕ × Value)) → Decides (same_entry a b) (a ≡ b)
same_entry-Decides a b = lists_Decides same_item same_item-Decides a b

itself : (a : List (ℕ × Value)) → same_entry a a ≡ true
itself a = (same_entry-Decides a a).1 refl

equal_is : (a b : List (ℕ × Value)) → is_eq (entry_cmp a b) ≡ same_entry a b
equal_is a b = elim (cases_Bool (same_entry a b)) [
  | inl same ↦
      ap is_eq (ap (entry_cmp a) (sym ((same_entry-Decides a b).0 same)) ∙ tied_itself entry_total a) ∙ sym same
  | inr other ↦ by other (entry_cmp a b) refl ∙ sym other
] where
  by : same_entry a b ≡ false → (o : Ordering) → entry_cmp a b ≡ o → is_eq o ≡ false
  by other Less is = refl
  by other Equal is = absurd (true≢false (sym ((same_entry-Decides a b).1 (exact_entries a b is)) ∙ other))
  by other Greater is = refl

-- ---- the first of those that are the same

abbrev pub below : EntryAt → EntryAt → Bool
below a b = is_lt (at_cmp a b)

pub ties_are : (x e : EntryAt) → ties below x e ≡ same_entry (items_at e) (items_at x)
ties_are x e =
    ap (λ o. not (is_lt o) && not (is_lt (at_cmp e x))) (at_total.antisymm x e) ∙ by (at_cmp e x)
    ∙ equal_is (items_at e) (items_at x) where
      by : (o : Ordering) → (not (is_lt (ordering_reverse o)) && not (is_lt o)) ≡ is_eq o
      by Less = refl
      by Equal = refl
      by Greater = refl

-- by its place
pub first_place : (entries : List (List (ℕ × Value))) (place : ℕ) (x : EntryAt) → slice_get entries place ≡ Some (items_at x)
    → (m : ℕ) (es : List EntryAt) → AreAt entries m es
    → option_map (λ e. e.place) (find (ties below x) es)
    ≡ find (λ other. same_at entries other place) (range_with_len m (length es))
first_place entries place x is m [] are = refl
first_place entries place x is m (e ∷ es) are =
    ap (λ b. option_map (λ (d : EntryAt). d.place) (cond b (Some e) (find (ties below x) es))) (ties_are x e ∙ sym here)
    ∙ by (same_at entries m place) (first_place entries place x is (m + 1) es are.2) where
      here : same_at entries m place ≡ same_entry (items_at e) (items_at x)
      here = ap₂ (option_eq same_entry) are.1 is

      by : (b : Bool)
          → option_map (λ (d : EntryAt). d.place) (find (ties below x) es)
          ≡ find (λ other. same_at entries other place) (range_with_len (m + 1) (length es))
          → option_map (λ (d : EntryAt). d.place) (cond b (Some e) (find (ties below x) es))
          ≡ cond b (Some m) (find (λ other. same_at entries other place) (range_with_len (m + 1) (length es)))
      by true later = ap (λ n. Some n) are.0
      by false later = later

pub same_itself : (entries : List (List (ℕ × Value))) (place : ℕ) (a : List (ℕ × Value)) → slice_get entries place ≡ Some a
    → same_at entries place place ≡ true
same_itself entries place a is = ap (λ o. option_eq same_entry o o) is ∙ itself a

pub is_less : (o : Ordering) → is_lt o ≡ true → o ≡ Less
is_less Less e = refl
is_less Equal e = absurd (true≢false (sym e))
is_less Greater e = absurd (true≢false (sym e))

-- what isn't below what is above x is above x
pub higher : (x y z : EntryAt) → below x y ≡ true → below z y ≡ false → below x z ≡ true
higher x y z above rises = by (at_cmp x z) refl where
  by : (o : Ordering) → at_cmp x z ≡ o → is_lt o ≡ true
  by Less is = refl
  by Equal is = absurd (true≢false (sym above ∙ ap is_lt (at_total.congr x z y is) ∙ rises))
  by Greater is =
      let turned : at_cmp z x ≡ Less = at_total.antisymm z x ∙ ap ordering_reverse is in
      absurd (true≢false (sym (ap is_lt (at_total.trans z x y turned (is_less (at_cmp x y) above))) ∙ rises))

-- and what isn't above what is below x is below x
lower : (x y z : EntryAt) → below y x ≡ true → below y z ≡ false → below z x ≡ true
lower x y z less rises = by (at_cmp z x) refl where
  by : (o : Ordering) → at_cmp z x ≡ o → is_lt o ≡ true
  by Less is = refl
  by Equal is = absurd (true≢false (sym less ∙ ap is_lt (sym (alike_right at_total z x y is)) ∙ rises))
  by Greater is =
      let turned : at_cmp x z ≡ Less = at_total.antisymm x z ∙ ap ordering_reverse is in
      absurd (true≢false (sym (ap is_lt (at_total.trans y x z (is_less (at_cmp y x) less) turned)) ∙ rises))

pub partitioned : (es : List EntryAt) (x : EntryAt) → IsSorted at_cmp es → IsPartitionedBy (λ e. below e x) es
partitioned es x sorted i j d le lt less =
    lower x (get_or es j d) (get_or es i d) less (sorted_far below (ranks_by at_total (λ z. z)) es sorted i j d le lt)

module _ (es : List EntryAt) (x : EntryAt) (p : ℕ) (sorted : IsSorted at_cmp es)
    (parts : IsPartitionPoint (λ e. below e x ≡ true) (λ e. below e x ≡ false) es p) where
  abbrev tied : EntryAt → Bool
  tied e = ties below x e

  first_fail : (k : ℕ) (d : EntryAt) → k < p → tied (get_or es k d) ≡ false
  first_fail k d lt =
      let less = parts.0 k d (omega arith) lt in
      ap (λ b. not (below x (get_or es k d)) && not b) less ∙ and_false (not (below x (get_or es k d))) where
        and_false : (b : Bool) → (b && false) ≡ false
        and_false true = refl
        and_false false = refl

  -- the one at the point isn't tied: then none is
  others_fail : (d : EntryAt) → p < length es → tied (get_or es p d) ≡ false → (k : ℕ) (e : EntryAt) → k < length es
      → tied (get_or es k e) ≡ false
  others_fail d within fails k e lt = elim (cases_Bool (nat_lt k p)) [
    | inl before ↦ first_fail k e (ltb-true k p before)
    | inr after ↦
        let le : p ≤ k = ltb-false k p after in
        let not_less : below (get_or es p d) x ≡ false = parts.1 p d (omega arith) within in
        let above : below x (get_or es p d) ≡ true = by (below x (get_or es p d)) (below (get_or es p d) x) not_less fails in
        let rises : below (get_or es k e) (get_or es p d) ≡ false =
        ap (λ z. below z (get_or es p d)) (same_default k e d lt)
        ∙ sorted_far below (ranks_by at_total (λ z. z)) es sorted p k d le lt in
        ap (λ b. not b && not (below (get_or es k e) x)) (higher x (get_or es p d) (get_or es k e) above rises)
  ] where
    by : (a b : Bool) → b ≡ false → (not a && not b) ≡ false → a ≡ true
    by true b isnt is = refl
    by false b isnt is = absurd (true≢false (sym (ap not isnt) ∙ is))

    same_default : (i : ℕ) (a b : EntryAt) → i < length es → get_or es i a ≡ get_or es i b
    same_default i a b less =
        let one = slice_get-get_or es i a less in
        let other = slice_get-get_or es i b less in
        let same : Some (get_or es i a) ≡ Some (get_or es i b) = sym one ∙ other in cc

  -- the one there is the first that is tied
  pub found_at : (o : Option EntryAt) → slice_get es p ≡ o → (find tied es ≡ None → ⊥) → find tied es ≡ o
  found_at (Some e) is some = elim (cases_Bool (tied e)) [
    | inl passes ↦
        let at = get_or_from_slice_get es p e e is in
        first_at tied es p e (slice_get_within es p e is) first_fail (ap tied at ∙ passes) ∙ ap (λ d. Some d) at
    | inr fails ↦
        let at = get_or_from_slice_get es p e e is in
        absurd (some (none_of tied es (others_fail e (slice_get_within es p e is) (ap tied at ∙ fails))))
  ]
  found_at None is some = absurd (some (none_of tied es (λ k d lt. first_fail k d (omega (arith, lt, past))))) where
    past : length es ≤ p
    past = elim (cases_Bool (nat_lt p (length es))) [
      | inl within ↦ absurd (let e : None ≡ Some (get_or es p x) = sym is ∙ slice_get-get_or es p x (ltb-true p (length es) within) in cc)
      | inr out ↦ ltb-false p (length es) out
    ]

-- the place of the one at the point is the first with the same entry
pub first_is : (es : List EntryAt) (x : EntryAt) (p : ℕ) (entries : List (List (ℕ × Value))) (place : ℕ)
    → AreOrdered es entries → slice_get entries place ≡ Some (items_at x)
    → IsPartitionPoint (λ e. below e x ≡ true) (λ e. below e x ≡ false) es p
    → option_map (λ e. e.place) (slice_get es p)
    ≡ find (λ other. same_at entries other place) (range_with_len 0 (length entries))
first_is es x p entries place order is parts =
    ap (option_map (λ (e : EntryAt). e.place))
    (sym (found_at es x p order.sorted parts (slice_get es p) refl some) ∙ same)
    ∙ placed where
      same : find (ties below x) es ≡ find (ties below x) order.listed
      same = same_find (ties below x) order.listed es (order.stable x)

      placed : option_map (λ (e : EntryAt). e.place) (find (ties below x) order.listed)
          ≡ find (λ other. same_at entries other place) (range_with_len 0 (length entries))
      placed =
          first_place entries place x is 0 order.listed order.are
          ∙ ap (λ n. find (λ other. same_at entries other place) (range_with_len 0 n)) order.all

      some : find (ties below x) es ≡ None → ⊥
      some none =
          some_found (λ other. same_at entries other place) 0 (length entries) place (omega arith)
          (omega (arith, slice_get_within entries place (items_at x) is)) (same_itself entries place (items_at x) is)
          (sym placed ∙ ap (option_map (λ (e : EntryAt). e.place)) (sym same ∙ none))
