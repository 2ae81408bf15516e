-- The section at a place, in places that are in order.
use Rattle.std.proofs.Common.{◌≡◌, ◌≢◌, ℕ, zero, suc, ◌+◌, ◌<◌, ◌≤◌, Bool, true, false, not, ◌&&◌, ◌==◌, cond, List, [], ◌∷◌}
use Rattle.std.proofs.Common.{length-drop, get_or-drop, length, drop, filter, get_or, Option, Some, None, refl, sym, ap, subst, ◌∙◌, arith}
use Rattle.std.proofs.Common.{◌↔◌, IsTrue}
use Rattle.std.proofs.lemmas.Map.Keys.{le_from_is_le}
use Rattle.std.proofs.lemmas.List.Sorted.{IsNonDecreasingBy-from_all_adjacent}
use Rattle.std.specs.List.{IsAllAdjacentAnswer}
use Rattle.std.proofs.Math.Path.{fun_ext}
use Rattle.std.proofs.Math.Seq.{drop-cons}
use Rattle.std.proofs.lemmas.Bool.Decides.{nat_tests}
use Rattle.std.specs.Ordering.{is_le, is_lt, nat_cmp}
use Rattle.std.specs.List.Sorted.{ties, IsStableByKey}
use Rattle.dl_reloc.specs.declared.placed.Placed.{Placed}
use Rattle.dl_object.specs.Kept.{Rises, first_section, section_at}

pub no_place : Placed
no_place = record { offset = 0; section = 0 }

-- a place at that offset
abbrev pub place_at : ℕ → Placed
place_at at = record { offset = at; section = 0 }

-- ---- a stable sort keeps the section at each place

tied : (a b : ℕ) → (not (is_lt (nat_cmp a b)) && not (is_lt (nat_cmp b a))) ≡ (b == a)
tied a b = grind (arith, nat_tests)

pub stable_section : (places sorted : List Placed) (at : ℕ) → IsStableByKey (λ p. p.offset) nat_cmp places sorted
    → section_at sorted at ≡ section_at places at
stable_section places sorted at stable =
    let same : (λ (p : Placed). ties (λ x y. is_lt (nat_cmp x.offset y.offset)) (place_at at) p) ≡ (λ (p : Placed). p.offset == at) =
    fun_ext (λ p. tied at p.offset) in
    subst (λ (test : Placed → Bool). first_section (filter test sorted) ≡ first_section (filter test places)) same
    (ap first_section (stable (place_at at)))

-- ---- the search by halves

other_at : (p : Placed) (places : List Placed) (at : ℕ) → (p.offset == at) ≡ false
    → section_at (p ∷ places) at ≡ section_at places at
other_at p places at e =
    ap (λ (b : Bool). first_section (cond b (p ∷ filter (λ p. p.offset == at) places) (filter (λ p. p.offset == at) places))) e

here_at : (p : Placed) (places : List Placed) (at : ℕ) → (p.offset == at) ≡ true
    → section_at (p ∷ places) at ≡ Some p.section
here_at p places at e =
    ap (λ (b : Bool). first_section (cond b (p ∷ filter (λ p. p.offset == at) places) (filter (λ p. p.offset == at) places))) e

differs : (a b : ℕ) → a ≢ b → (a == b) ≡ false
differs a b ne = grind (arith, nat_tests)

pub skip_below : (places : List Placed) (i at : ℕ) → i ≤ length places
    → ((k : ℕ) (d : Placed) → k < i → (get_or places k d).offset < at) → section_at places at ≡ section_at (drop i places) at
skip_below places zero at le below = refl
skip_below [] (suc i) at le below = refl
skip_below (p ∷ places) (suc i) at le below =
    let lt : p.offset < at = below 0 no_place (omega arith) in
    other_at p places at (differs p.offset at (omega arith))
    ∙ skip_below places i at (omega arith) (λ k d h. below (suc k) d (omega arith))

pub none_above : (places : List Placed) (at : ℕ)
    → ((k : ℕ) → k < length places → at < (get_or places k no_place).offset)
    → ◌≡◌ {A = Option ℕ} (section_at places at) None
none_above [] at above = refl
none_above (p ∷ places) at above =
    let lt : at < p.offset = above 0 (omega arith) in
    other_at p places at (differs p.offset at (omega arith)) ∙ none_above places at (λ k h. above (suc k) (omega arith))

-- at the first place that isn't below
pub found_at : (places : List Placed) (i at : ℕ) (p : Placed) → i < length places
    → ((k : ℕ) (d : Placed) → k < i → (get_or places k d).offset < at) → get_or places i no_place ≡ p → p.offset ≡ at
    → ◌≡◌ {A = Option ℕ} (Some p.section) (section_at places at)
found_at places i at p lt below is e =
    let test : (p.offset == at) ≡ true = grind (arith, nat_tests) in
    sym (skip_below places i at (omega arith) below
    ∙ ap (λ (l : List Placed). section_at l at) (drop-cons places i no_place lt)
    ∙ ap (λ (q : Placed). section_at (q ∷ drop (suc i) places) at) is
    ∙ here_at p (drop (suc i) places) at test)

-- or where there is another one
pub not_found : (places : List Placed) (i at : ℕ) → i ≤ length places → Rises places
    → ((k : ℕ) (d : Placed) → k < i → (get_or places k d).offset < at)
    → (i < length places → at < (get_or places i no_place).offset)
    → ◌≡◌ {A = Option ℕ} None (section_at places at)
not_found places i at le rises below here =
    sym (skip_below places i at le below ∙ none_above (drop i places) at (λ k lt. above k lt))
  where
    above : (k : ℕ) → k < length (drop i places) → at < (get_or (drop i places) k no_place).offset
    above k lt =
        let left = length-drop i places in
        let short : i + k < length places = omega (arith, lt, left) in
        rw get_or-drop (omega (arith, here (omega arith), rises i (i + k) no_place (omega arith) short))

-- ---- whether they are in order

le_test : (a b : ℕ) → true ≡ is_le (nat_cmp a b) → a ≤ b
le_test a b e = le_from_is_le a b (sym e)

not_le_test : (a b : ℕ) → false ≡ is_le (nat_cmp a b) → a ≤ b → ⊥
not_le_test a b e le = grind (arith, nat_tests)

abbrev Answers : List Placed → Bool → Type 0
Answers places r =
    IsAllAdjacentAnswer (λ (x y : Placed) (b : Bool). b ≡ is_le (nat_cmp x.offset y.offset)) places r

pub rising_is : (places : List Placed) (r : Bool) → Answers places r → IsTrue r ↔ Rises places
rising_is places true answer = (
  λ e. IsNonDecreasingBy-from_all_adjacent (λ (p : Placed). p.offset) places
      (λ k d lt. le_test (get_or places k d).offset (get_or places (k + 1) d).offset (answer k d lt)),
  λ rises. refl,
)
rising_is places false answer = (
  λ (e : false ≡ true). absurd cc,
  λ rises. absurd (not_le_test (get_or places answer.0 no_place).offset (get_or places (answer.0 + 1) no_place).offset
      (answer.2 no_place) (rises answer.0 (answer.0 + 1) no_place (omega arith) (omega (arith, answer.1)))),
)
