-- Places in the order of their addresses.
use Rattle.std.proofs.Common.{◌≡◌, ◌≢◌, ℕ, suc, ◌<◌, ◌≤◌, Bool, true, false, not, List, [], ◌∷◌, length, get_or, filter, map, refl, sym, ap}
use Rattle.std.proofs.Common.{ap₂, ◌∙◌, arith, subst}
use Rattle.std.proofs.Math.Path.{fun_ext}
use Rattle.std.proofs.lemmas.Bool.Decides.{nat_tests}
use Rattle.std.specs.Prelude.{◌&&◌, ◌==◌, nat_le, nat_lt, if◌then◌else◌}
use Rattle.std.specs.List.{list_all}
use Rattle.std.specs.List.Sorted.{IsStableByKey, ties}
use Rattle.std.specs.Ordering.{is_lt, nat_cmp}
use Rattle.dl_lines.specs.declared.best.KeptPlace.{KeptPlace}
use Rattle.dl_lines.specs.Places.{CodePlace}
use Rattle.dl_lines.specs.Answers.{by_address, insert}
use Rattle.dl_lines.specs.Kept.{Rises, place_kept}

abbrev has : ℕ → CodePlace → Bool
has a p = p.address == a

abbrev none_below : ℕ → List CodePlace → Bool
none_below n places = list_all (λ (q : CodePlace). nat_le n q.address) places

abbrev rises : List CodePlace → Bool
rises [] = true
rises (p ∷ places) = none_below p.address places && rises places

and_first : (a b : Bool) → (a && b) ≡ true → a ≡ true
and_first true b e = refl
and_first false b e = e

and_second : (a b : Bool) → (a && b) ≡ true → b ≡ true
and_second true b e = e
and_second false b e = absurd cc

both_true : (a b : Bool) → a ≡ true → b ≡ true → (a && b) ≡ true
both_true a b e f = ap₂ (λ (x y : Bool). x && y) e f

same_is : (n : ℕ) → (n == n) ≡ true
same_is n = grind (arith, nat_tests)

other_is : (n m : ℕ) → n ≢ m → (n == m) ≡ false
other_is n m ne = grind (arith, nat_tests)

-- none at an address that is below all
none_at : (a k : ℕ) → a < k → (places : List CodePlace) → none_below k places ≡ true → filter (has a) places ≡ []
none_at a k lt [] all = refl
none_at a k lt (p ∷ places) all =
    ap₂ (λ (b : Bool) (l : List CodePlace). if b then p ∷ l else l) (differs (and_first _ _ all))
    (none_at a k lt places (and_second _ _ all)) where
      differs : nat_le k p.address ≡ true → (p.address == a) ≡ false
      differs le = grind (arith, nat_tests, lt, le)

lower : (n m : ℕ) → n ≤ m → (places : List CodePlace) → none_below m places ≡ true → none_below n places ≡ true
lower n m le [] all = refl
lower n m le (p ∷ places) all =
    both_true (nat_le n p.address) (none_below n places) (less (and_first _ _ all)) (lower n m le places (and_second _ _ all)) where
      less : nat_le m p.address ≡ true → nat_le n p.address ≡ true
      less e = grind (arith, nat_tests, le, e)

-- ---- two lists in order with the same places at each address

filter_here : (a : ℕ) (p : CodePlace) (places : List CodePlace) → (p.address == a) ≡ true
    → filter (has a) (p ∷ places) ≡ p ∷ filter (has a) places
filter_here a p places e = ap (λ (b : Bool). if b then p ∷ filter (has a) places else filter (has a) places) e

filter_other : (a : ℕ) (p : CodePlace) (places : List CodePlace) → (p.address == a) ≡ false
    → filter (has a) (p ∷ places) ≡ filter (has a) places
filter_other a p places e = ap (λ (b : Bool). if b then p ∷ filter (has a) places else filter (has a) places) e

no_cons : (p : CodePlace) (l : List CodePlace) → p ∷ l ≡ [] → ⊥
no_cons p l e = cc

heads : (p q : CodePlace) (a b : List CodePlace) → p ∷ a ≡ q ∷ b → (p ≡ q) × (a ≡ b)
heads p q a b e = (cc, cc)

first_missing : (b c : CodePlace) (bs cs : List CodePlace) → rises (c ∷ cs) ≡ true
    → filter (has b.address) (b ∷ bs) ≡ filter (has b.address) (c ∷ cs) → b.address < c.address → ⊥
first_missing b c bs cs up same lt =
    no_cons b (filter (has b.address) bs)
    (sym (filter_here b.address b bs (same_is b.address)) ∙ same
    ∙ none_at b.address c.address lt (c ∷ cs)
    (both_true (nat_le c.address c.address) (none_below c.address cs) (le_self c.address) (and_first _ _ up))) where
      le_self : (n : ℕ) → nat_le n n ≡ true
      le_self n = grind (arith, nat_tests)

unique : (bs cs : List CodePlace) → rises bs ≡ true → rises cs ≡ true
    → ((a : ℕ) → filter (has a) bs ≡ filter (has a) cs) → bs ≡ cs
unique [] [] up up' same = refl
unique [] (c ∷ cs) up up' same =
    absurd (no_cons c (filter (has c.address) cs)
    (sym (filter_here c.address c cs (same_is c.address)) ∙ sym (same c.address)))
unique (b ∷ bs) [] up up' same =
    absurd (no_cons b (filter (has b.address) bs)
    (sym (filter_here b.address b bs (same_is b.address)) ∙ same b.address))
unique (b ∷ bs) (c ∷ cs) up up' same =
    by (nat_lt b.address c.address) refl (nat_lt c.address b.address) refl
    (λ e rest. ap₂ (λ (x : CodePlace) (l : List CodePlace). x ∷ l) e (unique bs cs (and_second _ _ up) (and_second _ _ up')
    rest)) where
      by : (is_lt : Bool) → nat_lt b.address c.address ≡ is_lt → (is_gt : Bool) → nat_lt c.address b.address ≡ is_gt
          → (b ≡ c → ((a : ℕ) → filter (has a) bs ≡ filter (has a) cs) → b ∷ bs ≡ c ∷ cs) → b ∷ bs ≡ c ∷ cs
      by true lt is_gt gt go = absurd (first_missing b c bs cs up' (same b.address) (below lt)) where
        below : nat_lt b.address c.address ≡ true → b.address < c.address
        below e = grind (arith, nat_tests, e)
      by false lt true gt go = absurd (first_missing c b cs bs up (sym (same c.address)) (below gt)) where
        below : nat_lt c.address b.address ≡ true → c.address < b.address
        below e = grind (arith, nat_tests, e)
      by false lt false gt go = go first.0 rest where
        equal : b.address ≡ c.address
        equal = grind (arith, nat_tests, lt, gt)

        is_there : (c.address == b.address) ≡ true
        is_there = grind (arith, nat_tests, equal)

        first : (b ≡ c) × (filter (has b.address) bs ≡ filter (has b.address) cs)
        first =
            heads b c (filter (has b.address) bs) (filter (has b.address) cs)
            (sym (filter_here b.address b bs (same_is b.address)) ∙ same b.address ∙ filter_here b.address c cs is_there)

        rest : (a : ℕ) → filter (has a) bs ≡ filter (has a) cs
        rest a = at (b.address == a) refl where
          at : (here : Bool) → (b.address == a) ≡ here → filter (has a) bs ≡ filter (has a) cs
          at true e =
              let there : (c.address == a) ≡ true = ap (λ (n : ℕ). n == a) (sym equal) ∙ e in
              (heads b c (filter (has a) bs) (filter (has a) cs)
              (sym (filter_here a b bs e) ∙ same a ∙ filter_here a c cs there)).1
          at false e =
              let there : (c.address == a) ≡ false = ap (λ (n : ℕ). n == a) (sym equal) ∙ e in
              sym (filter_other a b bs e) ∙ same a ∙ filter_other a c cs there

-- ---- `by_address`

none_insert : (n : ℕ) (p : CodePlace) (places : List CodePlace) → nat_le n p.address ≡ true → none_below n places ≡ true
    → none_below n (insert p places) ≡ true
none_insert n p [] le all = both_true (nat_le n p.address) true le refl
none_insert n p (q ∷ places) le all =
    by (nat_le p.address q.address) (none_insert n p places le (and_second _ _ all)) where
      by : (b : Bool) → none_below n (insert p places) ≡ true
          → none_below n (if b then p ∷ q ∷ places else q ∷ insert p places) ≡ true
      by true more = both_true (nat_le n p.address) (none_below n (q ∷ places)) le all
      by false more = both_true (nat_le n q.address) (none_below n (insert p places)) (and_first _ _ all) more

rises_insert : (p : CodePlace) (places : List CodePlace) → rises places ≡ true → rises (insert p places) ≡ true
rises_insert p [] up = refl
rises_insert p (q ∷ places) up =
    by (nat_le p.address q.address) refl (rises_insert p places (and_second _ _ up)) where
      by : (b : Bool) → nat_le p.address q.address ≡ b → rises (insert p places) ≡ true
          → rises (if b then p ∷ q ∷ places else q ∷ insert p places) ≡ true
      by true e more =
          both_true (none_below p.address (q ∷ places)) (rises (q ∷ places))
          (both_true (nat_le p.address q.address) (none_below p.address places) e
          (lower p.address q.address (le e) places (and_first _ _ up))) up where
            le : nat_le p.address q.address ≡ true → p.address ≤ q.address
            le e = grind (arith, nat_tests, e)
      by false e more =
          both_true (none_below q.address (insert p places)) (rises (insert p places))
          (none_insert q.address p places (above e) (and_first _ _ up)) more where
            above : nat_le p.address q.address ≡ false → nat_le q.address p.address ≡ true
            above e = grind (arith, nat_tests, e)

insert_at : (a : ℕ) (p : CodePlace) (places : List CodePlace)
    → filter (has a) (insert p places) ≡ filter (has a) (p ∷ places)
insert_at a p [] = refl
insert_at a p (q ∷ places) = by (nat_le p.address q.address) refl (insert_at a p places) where
  swap : (here there : Bool) → (p.address == a) ≡ here → (q.address == a) ≡ there → nat_le p.address q.address ≡ false
      → (if there then q ∷ (if here then p ∷ filter (has a) places else filter (has a) places)
      else if here then p ∷ filter (has a) places else filter (has a) places)
      ≡ (if here then p ∷ (if there then q ∷ filter (has a) places else filter (has a) places)
      else if there then q ∷ filter (has a) places else filter (has a) places)
  swap true true e f above = absurd (grind (arith, nat_tests, e, f, above))
  swap true false e f above = refl
  swap false true e f above = refl
  swap false false e f above = refl

  by : (b : Bool) → nat_le p.address q.address ≡ b → filter (has a) (insert p places) ≡ filter (has a) (p ∷ places)
      → filter (has a) (if b then p ∷ q ∷ places else q ∷ insert p places) ≡ filter (has a) (p ∷ q ∷ places)
  by true e more = refl
  by false e more =
      ap (λ (l : List CodePlace). if q.address == a then q ∷ l else l) more
      ∙ swap (p.address == a) (q.address == a) refl refl e

rises_by : (places : List CodePlace) → rises (by_address places) ≡ true
rises_by [] = refl
rises_by (p ∷ places) = rises_insert p (by_address places) (rises_by places)

by_at : (a : ℕ) (places : List CodePlace) → filter (has a) (by_address places) ≡ filter (has a) places
by_at a [] = refl
by_at a (p ∷ places) =
    insert_at a p (by_address places)
    ∙ ap (λ (l : List CodePlace). if p.address == a then p ∷ l else l) (by_at a places)

-- ---- what a sort gives

module _ (paths : List (List ℕ)) (line : ℕ) where
  abbrev seen : List KeptPlace → List CodePlace
  seen places = map (place_kept paths line) places

  all_from : (a : ℕ) (places : List KeptPlace)
      → ((j : ℕ) (d : KeptPlace) → j < length places → a ≤ (get_or places j d).address)
      → none_below a (seen places) ≡ true
  all_from a [] le = refl
  all_from a (p ∷ places) le =
      both_true (nat_le a p.address) (none_below a (seen places)) (test (le 0 p (omega arith)))
      (all_from a places (λ j d lt. le (suc j) d (omega (arith, lt)))) where
        test : a ≤ p.address → nat_le a p.address ≡ true
        test e = grind (arith, nat_tests, e)

  rises_from : (places : List KeptPlace) → Rises places → rises (seen places) ≡ true
  rises_from [] up = refl
  rises_from (p ∷ places) up =
      both_true (none_below p.address (seen places)) (rises (seen places))
      (all_from p.address places (λ j d lt. up 0 (suc j) d (omega arith) (omega (arith, lt))))
      (rises_from places (λ i j d le lt. up (suc i) (suc j) d (omega (arith, le)) (omega (arith, lt))))

  filter_seen : (a : ℕ) (places : List KeptPlace)
      → filter (has a) (seen places) ≡ seen (filter (λ (p : KeptPlace). p.address == a) places)
  filter_seen a [] = refl
  filter_seen a (p ∷ places) = by (p.address == a) (filter_seen a places) where
    by : (b : Bool) → filter (has a) (seen places) ≡ seen (filter (λ (p : KeptPlace). p.address == a) places)
        → (if b then place_kept paths line p ∷ filter (has a) (seen places) else filter (has a) (seen places))
        ≡ seen (if b then p ∷ filter (λ (p : KeptPlace). p.address == a) places
        else filter (λ (p : KeptPlace). p.address == a) places)
    by true e = ap (λ (l : List CodePlace). place_kept paths line p ∷ l) e
    by false e = e

  tied : (a b : ℕ) → (not (is_lt (nat_cmp a b)) && not (is_lt (nat_cmp b a))) ≡ (b == a)
  tied a b = grind (arith, nat_tests)

  at_address : ℕ → KeptPlace
  at_address a = record { address = a; column = 0; prologue_end = false; path = 0 }

  stable_at : (old new : List KeptPlace) → IsStableByKey (λ (p : KeptPlace). p.address) nat_cmp old new → (a : ℕ)
      → filter (λ (p : KeptPlace). p.address == a) new ≡ filter (λ (p : KeptPlace). p.address == a) old
  unfolding at_address
  stable_at old new stable a =
      let same : (λ (p : KeptPlace). ties (λ (x y : KeptPlace). is_lt (nat_cmp x.address y.address)) (at_address a) p)
      ≡ (λ (p : KeptPlace). p.address == a) = fun_ext (λ p. tied a p.address) in
      subst (λ (test : KeptPlace → Bool). filter test new ≡ filter test old) same (stable (at_address a))

  pub ordered : (old new : List KeptPlace) → Rises new → IsStableByKey (λ (p : KeptPlace). p.address) nat_cmp old new
      → seen new ≡ by_address (seen old)
  ordered old new up stable =
      unique (seen new) (by_address (seen old)) (rises_from new up) (rises_by (seen old))
      (λ a. filter_seen a new ∙ ap seen (stable_at old new stable a) ∙ sym (filter_seen a old)
      ∙ sym (by_at a (seen old)))
