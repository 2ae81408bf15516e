-- Ranges of addresses in the order of their starts, and how far they reach.
use Rattle.std.proofs.Common.{◌≡◌, ℕ, zero, suc, ◌+◌, ◌-◌, ◌<◌, ◌≤◌, Bool, true, false, ◌&&◌, ◌||◌, nat_le, nat_lt}
use Rattle.std.proofs.Common.{List, [], ◌∷◌, ◌++◌, length, take, get_or, max, arith, refl, sym, ap, ap₂, ◌∙◌, inl, inr}
use Rattle.std.proofs.Common.{subst}
use Rattle.std.specs.List.{list_any}
use Rattle.std.proofs.lemmas.Bool.{cases_lt}
use Rattle.std.proofs.lemmas.Bool.Decides.{nat_tests}
use Rattle.std.proofs.lemmas.List.{take_more, length_push, get_or_push, get_or_append_left, get_or_default}
use Rattle.std.proofs.lemmas.List.Folds.{list_any-append, list_any-from_Any, list_any_none}
use Rattle.dl_look.specs.declared.code_ranges.AddressRange.{AddressRange}
use Rattle.dl_look.specs.declared.code_ranges.Reach.{Reach}
use Rattle.dl_look.specs.Ranges.{AreRising, StartsRise, is_in, is_reached, no_range, no_reach, reach_end}
use Rattle.dl_look.specs.Ranges.{reach_start, start_in}

starts_far : (ranges : List AddressRange)
    → ((k : ℕ) → k + 1 < length ranges → start_in ranges k ≤ start_in ranges (k + 1)) → (i d : ℕ)
    → i + d < length ranges
    → start_in ranges i ≤ start_in ranges (i + d)
starts_far ranges step i zero h =
    let e : i ≡ i + 0 = omega arith in subst (λ j. start_in ranges i ≤ start_in ranges j) e (omega arith)
starts_far ranges step i (suc d) h =
    let e : i + d + 1 ≡ i + suc d = omega arith in
    let before = starts_far ranges step i d (omega arith) in
    let next = step (i + d) (omega arith) in
    subst (λ j. start_in ranges i ≤ start_in ranges j) e (omega (arith, before, next))

pub starts_rise : (ranges : List AddressRange)
    → ((k : ℕ) → k + 1 < length ranges → start_in ranges k ≤ start_in ranges (k + 1)) → StartsRise ranges
starts_rise ranges step j k le lt =
    let e : j + (k - j) ≡ k = omega arith in
    subst (λ m. start_in ranges j ≤ start_in ranges m) e (starts_far ranges step j (k - j) (omega arith))

-- how far the first i ranges reach; the furthest of them to `furthest`
pub record SoFar (ranges : List AddressRange) (reaches : List Reach) (i furthest : ℕ) : Type 0 where
  pub count : length reaches ≡ i
  pub rising : AreRising reaches
  pub ends : (k : ℕ) → k < i → reach_end reaches k ≤ furthest
  pub starts : (k : ℕ) → k < i → reach_start reaches k ≡ start_in ranges k
  pub last : 0 < furthest → (0 < i) × (reach_end reaches (i - 1) ≡ furthest)
  pub same : (a : ℕ) → list_any (is_reached a) reaches ≡ list_any (is_in a) (take i ranges)

reached : (reaches : List Reach) (a k : ℕ) → k < length reaches → reach_start reaches k ≤ a → a < reach_end reaches k
    → list_any (is_reached a) reaches ≡ true
reached reaches a k lt from to =
    list_any-from_Any (is_reached a) reaches (
      k,
      get_or reaches k no_reach,
      lt,
      get_or_default reaches k (get_or reaches k no_reach) no_reach lt,
      (grind (arith, nat_tests, from, to)),
    )

-- a range more, which ends at `range_end`
either : (old : Bool) (start a end range_end furthest : ℕ) → end ≡ max range_end furthest
    → (start ≤ a → a < furthest → old ≡ true)
    → (old || (nat_le start a && nat_lt a end)) ≡ (old || (nat_le start a && nat_lt a range_end))
either old start a end range_end furthest is far = elim (cases_lt a furthest) [
  | inl under ↦ elim (cases_lt a start) [
    | inl before ↦ grind (arith, nat_tests, before)
    | inr at ↦ (let t = far at under in rw t refl)
  ]
  | inr past ↦ grind (arith, nat_tests, is, past)
]

one : (b : Bool) → (b || false) ≡ b
one true = refl
one false = refl

module _ (ranges : List AddressRange) (reaches : List Reach) (i furthest end : ℕ) (range : AddressRange)
    (rises : StartsRise ranges) (s : SoFar ranges reaches i furthest) (lt : i < length ranges)
    (read : get_or ranges i no_range ≡ range) (is : end ≡ max (range.start + range.size) furthest) where
  abbrev new : Reach
  new = record { start = range.start; end = end }

  abbrev more : List Reach
  more = reaches ++ new ∷ []

  kept : (k : ℕ) → k < i → get_or more k no_reach ≡ get_or reaches k no_reach
  kept k h = let n = s.count in get_or_append_left reaches (new ∷ []) no_reach k (omega (arith, n, h))

  at_new : get_or more i no_reach ≡ new
  at_new = get_or_push reaches new no_reach i s.count

  start_new : range.start ≡ start_in ranges i
  start_new = ap (λ (r : AddressRange). r.start) (sym read)

  count : length more ≡ i + 1
  count = length_push reaches new ∙ ap (λ n. n + 1) s.count

  ends : (k : ℕ) → k < i + 1 → reach_end more k ≤ end
  ends k h = elim (cases_lt k i) [
    | inl under ↦ (let e = ap (λ (r : Reach). r.end) (kept k under) in let b = s.ends k under in
        omega (arith, e, b, is))
    | inr at ↦ (let same : k ≡ i = omega (
      arith,
      h,
      at,
    ) in let e = ap (λ j. reach_end more j) same ∙ ap (λ (r : Reach). r.end) at_new in omega (arith, e))
  ]

  starts : (k : ℕ) → k < i + 1 → reach_start more k ≡ start_in ranges k
  starts k h = elim (cases_lt k i) [
    | inl under ↦ ap (λ (r : Reach). r.start) (kept k under) ∙ s.starts k under
    | inr at ↦ (let same : k ≡ i = omega (arith, h, at) in
        ap (λ j. reach_start more j) same
        ∙ (ap (λ (r : Reach). r.start) at_new ∙ (start_new ∙ ap (λ j. start_in ranges j) (sym same))))
  ]

  rising : AreRising more
  rising j k le within =
      let n = count in
      let by_start = rises j k le (omega (arith, within, n, lt)) in
      let from = starts j (omega (arith, le, within, n)) in
      let to = starts k (omega (arith, within, n)) in (
        omega (arith, by_start, from, to),
        elim (cases_lt k i) [
          | inl under ↦ (let e = ap (λ (r : Reach). r.end) (kept j (omega (arith, le, under))) in
              let e' = ap (λ (r : Reach). r.end) (kept k under) in
              let b = (s.rising j k le (let c = s.count in omega (arith, c, under))).1 in omega (arith, e, e', b))
          | inr at ↦ (let same : k ≡ i = omega (
            arith,
            within,
            n,
            at,
          ) in let e = ap (λ j. reach_end more j) same ∙ ap (λ (r : Reach). r.end) at_new in
              let b = ends j (omega (arith, le, within, n)) in omega (arith, e, b))
        ],
      )

  last : 0 < end → (0 < i + 1) × (reach_end more (i + 1 - 1) ≡ end)
  last h =
      let e : i + 1 - 1 ≡ i =
      omega arith in (omega arith, ap (λ j. reach_end more j) e ∙ ap (λ (r : Reach). r.end) at_new)

  covered : (a : ℕ) → range.start ≤ a → a < furthest → list_any (is_reached a) reaches ≡ true
  covered a from to =
      let last = s.last (omega (arith, to)) in
      let some = last.0 in
      let far = last.1 in
      let before = rises (i - 1) i (omega arith) lt in
      let start = s.starts (i - 1) (omega (arith, some)) in
      let n = s.count in
      let now = start_new in
      reached reaches a (i - 1) (omega (arith, n, some)) (omega (arith, before, start, now, from))
      (omega (arith, far, to))

  same : (a : ℕ) → list_any (is_reached a) more ≡ list_any (is_in a) (take (i + 1) ranges)
  same a =
      list_any-append (is_reached a) reaches (new ∷ [])
      ∙ (ap (λ b. list_any (is_reached a) reaches || b) (one (is_reached a new))
      ∙ (either (list_any (is_reached a) reaches) range.start a end (range.start + range.size) furthest is (covered a)
      ∙ (ap₂ (λ b c. b || c) (s.same a) (sym (one (is_in a range)))
      ∙ (sym (list_any-append (is_in a) (take i ranges) (range ∷ []))
      ∙ ap (list_any (is_in a)) (ap (λ r. take i ranges ++ r ∷ []) (sym read)
      ∙ sym (take_more ranges i no_range lt))))))

  pub one_more : SoFar ranges more (i + 1) end
  one_more = record { count = count; rising = rising; ends = ends; starts = starts; last = last; same = same }

-- ---- a look-up. count: how many begin at the address or before it

is_false : (start end a : ℕ) → (start ≤ a → end ≤ a) → (nat_le start a && nat_lt a end) ≡ false
is_false start end a past = elim (cases_lt a start) [
  | inl before ↦ grind (arith, nat_tests, before)
  | inr from ↦ (let over = past from in grind (arith, nat_tests, over))
]

pub none_begins : (reaches : List Reach) (a count : ℕ) → count ≤ 0
    → ((k : ℕ) → count ≤ k → k < length reaches → a < reach_start reaches k) → false ≡ list_any (is_reached a) reaches
none_begins reaches a count none above =
    sym (list_any_none (is_reached a) reaches
    (λ k d lt. subst (λ r. is_reached a r ≡ false) (get_or_default reaches k no_reach d lt)
    (let b = above k (omega (arith, none)) lt in
    is_false (reach_start reaches k) (reach_end reaches k) a (λ from. absurd (omega (arith, from, b))))))

pub last_tells : (reaches : List Reach) (a count : ℕ) (last : Reach) → AreRising reaches → count ≤ length reaches
    → 0 < count
    → ((k : ℕ) → k < count → reach_start reaches k ≤ a)
    → ((k : ℕ) → count ≤ k → k < length reaches → a < reach_start reaches k)
    → last ≡ get_or reaches (count - 1) no_reach → nat_lt a last.end ≡ list_any (is_reached a) reaches
last_tells reaches a count last rises within some upto above read =
    let e = ap (λ (r : Reach). r.end) read in
    elim (cases_lt a last.end) [
      | inl under ↦ (let t : nat_lt a last.end ≡ true = grind (arith, nat_tests, under) in
          t ∙ sym (reached reaches a (count - 1) (omega (arith, within, some)) (upto (count - 1) (omega (arith, some)))
          (omega (arith, e, under))))
      | inr past ↦ (let t : nat_lt a last.end ≡ false = grind (arith, nat_tests, past) in
          t ∙ sym (list_any_none (is_reached a) reaches
          (λ k d lt. subst (λ r. is_reached a r ≡ false) (get_or_default reaches k no_reach d lt)
          (is_false (reach_start reaches k) (reach_end reaches k) a (λ from. elim (cases_lt k count) [
            | inl under ↦ (let ends = (rises k (count - 1) (omega (arith, under)) (omega (arith, within, some))).1 in
                omega (arith, ends, e, past))
            | inr tail ↦ (let b = above k tail lt in absurd (omega (arith, from, b)))
          ])))))
    ]
