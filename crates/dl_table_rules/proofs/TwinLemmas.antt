-- An entry of a table that stands beside no one with the same values, in their order, is the same as none before it.
use Rattle.std.proofs.Common.{◌≡◌, ◌≢◌, ◌∙◌, ℕ, ◌+◌, ◌<◌, ◌≤◌, Bool, true, false, true≢false, List, [], ◌∷◌, length, Option, Some, None}
use Rattle.std.proofs.Common.{refl, sym, ap, ap₂, arith, inl, inr, get_or, set, zero, suc, subst, ⊎_elim}
use Rattle.std.specs.Prelude.{⊤, cond, nat_lt, not, ◌&&◌, slice_get, slice_index_or}
use Rattle.std.proofs.lemmas.Bool.{cases_Bool, cases_eq, ltb-false, ltb-true}
use Rattle.std.proofs.lemmas.List.{get_or-set_other, get_or-set_same, get_or_default, get_or_past, length-set}
use Rattle.std.specs.List.{filter, find, range_with_len}
use Rattle.std.specs.List.Sorted.{IsSorted, ties}
use Rattle.std.specs.Cmp.{tied_itself}
use Rattle.std.specs.Option.{option_eq}
use Rattle.std.specs.Ordering.{is_lt}
use Rattle.dl_table.specs.Value.{Value}
use Rattle.dl_table_rules.specs.Duplicates.{same_at, same_entry}
use Rattle.dl_table_rules.specs.Ordering.{AreAt, AreBelow, AreOrdered, AreTwins, at_cmp, items_at}
use Rattle.dl_table_rules.specs.OrderLaws.{entry_total}
use Rattle.dl_table_rules.specs.declared.entry_order.EntryAt.{EntryAt}
use Rattle.dl_table_rules.proofs.FirstLemmas.{apart, found_within}
use Rattle.dl_table_rules.proofs.OrderLemmas.{below, higher, same_itself, ties_are}

-- those of a list that are tied with x
abbrev tied : EntryAt → List EntryAt → List EntryAt
tied x es = filter (ties below x) es

module _ (x e : EntryAt) (es : List EntryAt) where
  one_more : ties below x e ≡ true → tied x (e ∷ es) ≡ e ∷ tied x es
  one_more passes = ap (λ b. cond b (e ∷ tied x es) (tied x es)) passes

  no_more : ties below x e ≡ false → tied x (e ∷ es) ≡ tied x es
  no_more fails = ap (λ b. cond b (e ∷ tied x es) (tied x es)) fails

and_first : (a b : Bool) → (a && b) ≡ true → a ≡ true
and_first true b is = refl
and_first false b is = absurd (true≢false (sym is))

and_second : (a b : Bool) → (a && b) ≡ true → b ≡ true
and_second true b is = is
and_second false b is = absurd (true≢false (sym is))

not_true : (a : Bool) → not a ≡ true → a ≡ false
not_true true is = absurd (true≢false (sym is))
not_true false is = refl

not_false : (a : Bool) → not a ≡ false → a ≡ true
not_false true is = refl
not_false false is = absurd (true≢false is)

isnt_above : (x e : EntryAt) → ties below x e ≡ true → below e x ≡ false
isnt_above x e passes = not_true (below e x) (and_second (not (below x e)) (not (below e x)) passes)

isnt_below : (x e : EntryAt) → ties below x e ≡ true → below x e ≡ false
isnt_below x e passes = not_true (below x e) (and_first (not (below x e)) (not (below e x)) passes)

-- ---- those that are tied stand beside one another

-- two that are tied with x: the one isn't below the other
both_tied : (x e f : EntryAt) → ties below x e ≡ true → ties below x f ≡ true → below e f ≡ false
both_tied x e f passes too = elim (cases_Bool (below e f)) [
  | inl less ↦
      absurd (true≢false (sym (higher e f x less (isnt_below x f too)) ∙ isnt_above x e passes))
  | inr isnt ↦ isnt
]

-- what isn't below one that is tied, and isn't tied itself, is above x
above_tied : (x e f : EntryAt) → ties below x e ≡ true → below f e ≡ false → ties below x f ≡ false → below x f ≡ true
above_tied x e f passes rises fails = elim (cases_Bool (below x f)) [
  | inl less ↦ less
  | inr isnt ↦
      let turned : below f x ≡ true =
      not_false (below f x) (sym (ap (λ b. not b && not (below f x)) isnt) ∙ fails) in
      absurd (true≢false (sym (higher f x e turned (isnt_above x e passes)) ∙ rises))
]

next_rises : (e f : EntryAt) (es : List EntryAt) → IsSorted at_cmp (e ∷ f ∷ es) → below f e ≡ false
next_rises e f es sorted = sorted 0 e (omega arith) (omega arith)

later : (e : EntryAt) (es : List EntryAt) → IsSorted at_cmp (e ∷ es) → IsSorted at_cmp es
later e es sorted k d le lt =
    let n : suc k + 1 ≡ suc (k + 1) = omega arith in
    ap (λ i. below (get_or (e ∷ es) i d) (get_or es k d)) (sym n) ∙ sorted (suc k) d (omega arith) (omega (arith, lt))

none_after : (x f : EntryAt) (es : List EntryAt) → IsSorted at_cmp (f ∷ es) → below x f ≡ true → tied x (f ∷ es) ≡ []
none_after x f [] sorted above = no_more x f [] (ap (λ b. not b && not (below f x)) above)
none_after x f (g ∷ es) sorted above =
    no_more x f (g ∷ es) (ap (λ b. not b && not (below f x)) above)
    ∙ none_after x g es (later f (g ∷ es) sorted) (higher x f g above (next_rises f g es sorted))

module _ (marks : List Bool) where
  abbrev pub is_marked : ℕ → Type 0
  is_marked place = slice_index_or marks place false ≡ true

  abbrev AreMarked : List EntryAt → Type 0
  AreMarked [] = ⊤
  AreMarked (e ∷ es) = is_marked e.place × AreMarked es

  twins_later : (e : EntryAt) (es : List EntryAt) → AreTwins (e ∷ es) marks → AreTwins es marks
  twins_later e es twins j d lt same =
      let n : suc j + 1 ≡ suc (j + 1) = omega arith in
      let both =
      twins (suc j) d (omega (arith, lt)) (ap (λ i. below (get_or es j d) (get_or (e ∷ es) i d)) n ∙ same) in
      (both.0, ap (λ i. slice_index_or marks (get_or (e ∷ es) i d).place false) (sym n) ∙ both.1)

  only : (x e : EntryAt) (es : List EntryAt) → length (tied x es) ≤ 0 → is_marked e.place → AreMarked (e ∷ tied x es)
  only x e es none is = by (tied x es) none where
    by : (l : List EntryAt) → length l ≤ 0 → AreMarked (e ∷ l)
    by [] few = (is, tt)
    by (f ∷ l) few = absurd (omega (arith, few))

  -- where there are two, all are marked
  all_marked : (x : EntryAt) (es : List EntryAt) → IsSorted at_cmp es → AreTwins es marks → 2 ≤ length (tied x es)
      → AreMarked (tied x es)
  all_marked x [] sorted twins two = absurd (omega (arith, two))
  all_marked x (e ∷ []) sorted twins two = elim (cases_Bool (ties below x e)) [
    | inl passes ↦ absurd (omega (arith, two, ap length (one_more x e [] passes)))
    | inr fails ↦ absurd (omega (arith, two, ap length (no_more x e [] fails)))
  ]
  all_marked x (e ∷ f ∷ es) sorted twins two = elim (cases_Bool (ties below x e)) [
    | inl passes ↦ subst AreMarked (sym (one_more x e (f ∷ es) passes)) (elim (cases_Bool (ties below x f)) [
      | inl too ↦
          let both = twins 0 e (omega arith) (both_tied x e f passes too) in (
            both.0,
            elim (cases_Bool (nat_lt 1 (length (tied x (f ∷ es))))) [
              | inl more ↦
                  all_marked x (f ∷ es) (later e (f ∷ es) sorted) (twins_later e (f ∷ es) twins)
                  (omega (arith, ltb-true 1 (length (tied x (f ∷ es))) more))
              | inr few ↦
                  let cons = one_more x f es too in
                  subst AreMarked (sym cons)
                  (only x f es (omega (arith, ap length cons, ltb-false 1 (length (tied x (f ∷ es))) few)) both.1)
            ],
          )
      | inr fails ↦
          let above = above_tied x e f passes (next_rises e f es sorted) fails in
          absurd (omega (
            arith,
            two,
            ap length (one_more x e (f ∷ es) passes),
            ap length (none_after x f es (later e (f ∷ es) sorted) above),
          ))
    ])
    | inr fails ↦
        let cons = no_more x e (f ∷ es) fails in
        subst AreMarked (sym cons)
        (all_marked x (f ∷ es) (later e (f ∷ es) sorted) (twins_later e (f ∷ es) twins) (omega (arith, two, ap length cons)))
  ]

-- ---- two places with the same entry are two that are tied

module _ (entries : List (List (ℕ × Value))) (place : ℕ) (x : EntryAt) (is : slice_get entries place ≡ Some (items_at x)) where
  tied_at : (m : ℕ) (e : EntryAt) (es : List EntryAt) → AreAt entries m (e ∷ es) → ties below x e ≡ same_at entries m place
  tied_at m e es are = ties_are x e ∙ sym (ap₂ (option_eq same_entry) are.1 is)

  passed_by : (m : ℕ) (e : EntryAt) (es : List EntryAt) → AreAt entries m (e ∷ es) → ties below x e ≡ false
      → (p : ℕ) → same_at entries p place ≡ true → m ≢ p
  passed_by m e es are fails p same =
      apart (λ other. same_at entries other place) m p (sym (tied_at m e es are) ∙ fails) same

  some_tied : (m : ℕ) (es : List EntryAt) → AreAt entries m es → (p : ℕ) → m ≤ p → p < m + length es
      → same_at entries p place ≡ true → 1 ≤ length (tied x es)
  some_tied m [] are p le lt same = absurd (omega (arith, le, lt))
  some_tied m (e ∷ es) are p le lt same = elim (cases_Bool (ties below x e)) [
    | inl passes ↦ omega (arith, ap length (one_more x e es passes))
    | inr fails ↦
        let other : m ≢ p = passed_by m e es are fails p same in
        let rest = some_tied (m + 1) es are.2 p (omega (arith, le, other)) (omega (arith, lt)) same in
        omega (arith, ap length (no_more x e es fails), rest)
  ]

  two_tied : (m : ℕ) (es : List EntryAt) → AreAt entries m es → (q p : ℕ) → m ≤ q → q < p → p < m + length es
      → same_at entries q place ≡ true → same_at entries p place ≡ true → 2 ≤ length (tied x es)
  two_tied m [] are q p le less lt first second = absurd (omega (arith, le, less, lt))
  two_tied m (e ∷ es) are q p le less lt first second = elim (cases_Bool (ties below x e)) [
    | inl passes ↦
        let rest = some_tied (m + 1) es are.2 p (omega (arith, le, less)) (omega (arith, lt)) second in
        omega (arith, ap length (one_more x e es passes), rest)
    | inr fails ↦
        let other : m ≢ q = passed_by m e es are fails q first in
        let rest = two_tied (m + 1) es are.2 q p (omega (arith, le, other)) less (omega (arith, lt)) first second in
        omega (arith, ap length (no_more x e es fails), rest)
  ]

  -- where all that are tied are marked, the place of each one is
  marked_at : (marks : List Bool) (m : ℕ) (es : List EntryAt) → AreAt entries m es → (p : ℕ) → m ≤ p → p < m + length es
      → same_at entries p place ≡ true → AreMarked marks (tied x es) → is_marked marks p
  marked_at marks m [] are p le lt same all = absurd (omega (arith, le, lt))
  marked_at marks m (e ∷ es) are p le lt same all = elim (cases_Bool (ties below x e)) [
    | inl passes ↦
        let each = subst (AreMarked marks) (one_more x e es passes) all in
        elim (cases_Bool (nat_lt m p)) [
          | inl less ↦
              marked_at marks (m + 1) es are.2 p (omega (arith, ltb-true m p less)) (omega (arith, lt)) same each.1
          | inr here ↦
              let at : e.place ≡ p = are.0 ∙ omega (arith, le, ltb-false m p here) in
              subst (is_marked marks) at each.0
        ]
    | inr fails ↦
        let other : m ≢ p = passed_by m e es are fails p same in
        marked_at marks (m + 1) es are.2 p (omega (arith, le, other)) (omega (arith, lt)) same
        (subst (AreMarked marks) (no_more x e es fails) all)
  ]

at_place : (entries : List (List (ℕ × Value))) (m : ℕ) (es : List EntryAt) → AreAt entries m es
    → (p : ℕ) → m ≤ p → p < m + length es → (x : EntryAt) × (slice_get entries p ≡ Some (items_at x))
at_place entries m [] are p le lt = absurd (omega (arith, le, lt))
at_place entries m (e ∷ es) are p le lt = elim (cases_Bool (nat_lt m p)) [
  | inl before ↦ at_place entries (m + 1) es are.2 p (omega (arith, ltb-true m p before)) (omega (arith, lt))
  | inr here ↦
      let same : m ≡ p = omega (arith, le, ltb-false m p here) in
      (e, subst (λ n. slice_get entries n ≡ Some (items_at e)) same are.1)
]

found_passes : (f : ℕ → Bool) (m n k : ℕ) → find f (range_with_len m n) ≡ Some k → f k ≡ true
found_passes f m zero k is = absurd cc
found_passes f m (suc n) k is = elim (cases_Bool (f m)) [
  | inl passes ↦
      let e : Some m ≡ Some k = sym (ap (λ b. cond b (Some m) (find f (range_with_len (m + 1) n))) passes) ∙ is in
      let same : m ≡ k = cc in sym (ap f same) ∙ passes
  | inr fails ↦
      found_passes f (m + 1) n k (sym (ap (λ b. cond b (Some m) (find f (range_with_len (m + 1) n))) fails) ∙ is)
]

module _ (es : List EntryAt) (entries : List (List (ℕ × Value))) (marks : List Bool) (place : ℕ) (order : AreOrdered es entries)
    (twins : AreTwins es marks) (lt : place < length entries) (unmarked : slice_index_or marks place false ≡ false) where
  abbrev same : ℕ → Bool
  same other = same_at entries other place

  within : place < 0 + length order.listed
  within = omega (arith, lt, order.all)

  found_none : (o : Option ℕ) → find same (range_with_len 0 place) ≡ o → None ≡ o
  found_none None is = refl
  found_none (Some q) is =
      let x = at_place entries 0 order.listed order.are place (omega arith) within in
      let before = found_within same 0 place q is in
      let itself = same_itself entries place (items_at x.0) x.1 in
      let two =
      two_tied entries place x.0 x.1 0 order.listed order.are q place (omega arith) (omega (arith, before.1)) within
      (found_passes same 0 place q is) itself in
      let stable = order.stable x.0 in
      let marked = all_marked marks x.0 es order.sorted twins (omega (arith, two, ap length stable)) in
      absurd (true≢false (
      sym (marked_at entries place x.0 x.1 marks 0 order.listed order.are place (omega arith) within itself
      (subst (AreMarked marks) stable marked))
      ∙ unmarked
      ))

  -- it is the same as no entry before it
  pub none_same : None ≡ find same (range_with_len 0 place)
  none_same = found_none (find same (range_with_len 0 place)) refl

-- ---- the places of entries in order are those of the table

module _ (count : ℕ) where
  abbrev AllBelow : List EntryAt → Type 0
  AllBelow [] = ⊤
  AllBelow (e ∷ es) = (e.place < count) × AllBelow es

  listed_below : (entries : List (List (ℕ × Value))) (m : ℕ) (es : List EntryAt) → AreAt entries m es → m + length es ≤ count
      → AllBelow es
  listed_below entries m [] are le = tt
  listed_below entries m (e ∷ es) are le =
      (omega (arith, are.0, le), listed_below entries (m + 1) es are.2 (omega (arith, le)))

  some_below : (q : EntryAt → Bool) (es : List EntryAt) → AllBelow es → AllBelow (filter q es)
  some_below q [] all = tt
  some_below q (e ∷ es) all = elim (cases_Bool (q e)) [
    | inl passes ↦ rw passes (all.0, some_below q es all.1)
    | inr fails ↦ rw fails (some_below q es all.1)
  ]

  kept_below : (q : EntryAt → Bool) (es : List EntryAt) (k : ℕ) (d : EntryAt) → k < length es → q (get_or es k d) ≡ true
      → AllBelow (filter q es) → (get_or es k d).place < count
  kept_below q [] k d lt passes all = absurd (omega (arith, lt))
  kept_below q (e ∷ es) zero d lt passes all = (subst AllBelow (ap (λ b. cond b (e ∷ filter q es) (filter q es)) passes) all).0
  kept_below q (e ∷ es) (suc k) d lt passes all = elim (cases_Bool (q e)) [
    | inl first ↦
        kept_below q es k d (omega (arith, lt)) passes
        (subst AllBelow (ap (λ b. cond b (e ∷ filter q es) (filter q es)) first) all).1
    | inr other ↦
        kept_below q es k d (omega (arith, lt)) passes
        (subst AllBelow (ap (λ b. cond b (e ∷ filter q es) (filter q es)) other) all)
  ]

tied_with_itself : (x : EntryAt) → ties below x x ≡ true
tied_with_itself x = ap (λ o. not (is_lt o) && not (is_lt o)) (tied_itself entry_total (items_at x))

pub are_below : (es : List EntryAt) (entries : List (List (ℕ × Value))) → AreOrdered es entries → AreBelow (length entries) es
are_below es entries order k d lt =
    let x = get_or es k d in
    let n = length entries in
    let listed = listed_below n entries 0 order.listed order.are (omega (arith, order.all)) in
    kept_below n (ties below x) es k d lt (tied_with_itself x)
    (subst (AllBelow n) (sym (order.stable x)) (some_below n (ties below x) order.listed listed))

-- ---- marks

one_stays : (marks : List Bool) (p q : ℕ) → is_marked marks q → is_marked (set marks p true) q
one_stays marks p q is = ⊎_elim
    (λ (here : q ≡ p). subst (is_marked (set marks p true)) (sym here) (get_or-set_same marks p true false (within here)))
    (λ (other : q ≢ p). get_or-set_other marks p q true false other ∙ is)
    (cases_eq q p) where
      within : q ≡ p → p < length marks
      within here = elim (cases_Bool (nat_lt p (length marks))) [
        | inl less ↦ ltb-true p (length marks) less
        | inr past ↦
            let from : length marks ≤ q = omega (arith, here, ltb-false p (length marks) past) in
            absurd (true≢false (sym is ∙ get_or_past marks q false from))
      ]

-- two marks more
module _ (marks : List Bool) (p q : ℕ) where
  abbrev pub more : List Bool
  more = set (set marks p true) q true

  pub stays : (r : ℕ) → is_marked marks r → is_marked more r
  stays r is = one_stays (set marks p true) q r (one_stays marks p r is)

  pub first_marked : p < length marks → is_marked more p
  first_marked lt = one_stays (set marks p true) q p (get_or-set_same marks p true false lt)

  pub second_marked : q < length marks → is_marked more q
  second_marked lt = get_or-set_same (set marks p true) q true false (omega (arith, lt, length-set marks p true))

-- the one that was read at a place
pub read_at : (es : List EntryAt) (i j : ℕ) (d e : EntryAt) → i ≡ j → j < length es → e ≡ get_or es j e → get_or es i d ≡ e
read_at es i j d e same lt is = ap (λ n. get_or es n d) same ∙ get_or_default es j d e lt ∙ sym is
