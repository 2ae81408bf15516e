-- Numbers in LEB128 at the front of bytes.
use Rattle.std.proofs.Common.{◌≡◌, ℕ, ◌<◌, ◌≤◌, Bool, true, false, nat_le, ◌&&◌, List, [], ◌∷◌, ◌++◌, length, refl, sym}
use Rattle.std.proofs.Common.{ap, ◌∙◌, arith, inl, inr, Option, None, Some, MatchOption}
use Rattle.std.proofs.lemmas.Bool.{cases_lt, lt-ltb, le-ltb, le-leb, lt-leb}
use Rattle.dl_num.specs.Leb.{AllContinue}
use Rattle.dl_num.specs.LebFront.{is_leb, leb_front}

pub true_false : {b : Bool} → b ≡ true → b ≡ false → ⊥
true_false {b = b} e f = let g : ◌≡◌ {A = Bool} true false = sym e ∙ f in absurd cc

pub and_left : (a b : Bool) → (a && b) ≡ true → a ≡ true
and_left true b e = refl
and_left false b e = absurd cc

pub and_right : (a b : Bool) → (a && b) ≡ true → b ≡ true
and_right true b e = e
and_right false b e = absurd cc

-- bytes that continue, and a last one, are a number
pub is_leb-ends : (w : List ℕ) (b : ℕ) → AllContinue w → b < 128 → is_leb (w ++ b ∷ []) ≡ true
is_leb-ends [] b h lt = lt-ltb b 128 lt
is_leb-ends (a ∷ []) b h lt = rw (le-leb 128 a h.0) (lt-ltb b 128 lt)
is_leb-ends (a ∷ c ∷ w) b h lt = rw (le-leb 128 a h.0) (is_leb-ends (c ∷ w) b h.1 lt)

-- bytes that all continue are none
pub is_leb-continues : (w : List ℕ) → AllContinue w → is_leb w ≡ false
is_leb-continues [] h = refl
is_leb-continues (a ∷ []) h = le-ltb a 128 h.0
is_leb-continues (a ∷ c ∷ w) h = rw (le-leb 128 a h.0) (is_leb-continues (c ∷ w) h.1)

-- no number begins another
pub is_leb-once : (w : List ℕ) (x : ℕ) (v : List ℕ) → is_leb w ≡ true → is_leb (w ++ x ∷ v) ≡ false
is_leb-once [] x v e = absurd cc
is_leb-once (a ∷ []) x v e = elim (cases_lt a 128) [
  | inl lt ↦ rw (lt-leb 128 a lt) refl
  | inr le ↦ absurd (true_false e (le-ltb a 128 le))
]
is_leb-once (a ∷ c ∷ w) x v e =
    let t = and_left (nat_le 128 a) (is_leb (c ∷ w)) e in
    rw t (is_leb-once (c ∷ w) x v (and_right (nat_le 128 a) (is_leb (c ∷ w)) e))

-- the front of more bytes
pub leb_front-append : (w y : List ℕ) → is_leb (leb_front w) ≡ true → leb_front (w ++ y) ≡ leb_front w
leb_front-append [] y e = absurd cc
leb_front-append (a ∷ w) y e = elim (cases_lt a 128) [
  | inl lt ↦ rw (lt-ltb a 128 lt) refl
  | inr le ↦ let t =
      le-ltb a 128 le in
      rw t (ap (λ (z : List ℕ). a ∷ z) (leb_front-append w y (tail_leb a (leb_front w) le (rw t at e))))
] where
  tail_leb : (a : ℕ) (z : List ℕ) → 128 ≤ a → is_leb (a ∷ z) ≡ true → is_leb z ≡ true
  tail_leb a [] le e = absurd (true_false e (le-ltb a 128 le))
  tail_leb a (c ∷ z) le e = and_right (nat_le 128 a) (is_leb (c ∷ z)) e

-- a number is its own front
pub leb_front-leb : (w : List ℕ) → is_leb w ≡ true → leb_front w ≡ w
leb_front-leb [] e = refl
leb_front-leb (a ∷ []) e = rw e refl
leb_front-leb (a ∷ c ∷ w) e = elim (cases_lt a 128) [
  | inl lt ↦ absurd (true_false (and_left (nat_le 128 a) (is_leb (c ∷ w)) e) (lt-leb 128 a lt))
  | inr le ↦ rw (le-ltb a 128 le)
      (ap (λ (z : List ℕ). a ∷ z) (leb_front-leb (c ∷ w) (and_right (nat_le 128 a) (is_leb (c ∷ w)) e)))
]

-- bytes that all continue are their own front
pub leb_front-continues : (w : List ℕ) → AllContinue w → leb_front w ≡ w
leb_front-continues [] h = refl
leb_front-continues (a ∷ w) h = rw (le-ltb a 128 h.0) (ap (λ (z : List ℕ). a ∷ z) (leb_front-continues w h.1))

pub leb_front-le : (w : List ℕ) → length (leb_front w) ≤ length w
leb_front-le [] = omega arith
leb_front-le (a ∷ w) = elim (cases_lt a 128) [
  | inl lt ↦ rw (lt-ltb a 128 lt) (omega arith)
  | inr le ↦ rw (le-ltb a 128 le) (omega (arith, leb_front-le w))
]

-- what holds of an answer, where more is known of each case
pub answer-map : {A : Type 0} {P Q : Type 0} {R S : A → Type 0} (o : Option A) → (P → Q) → ((a : A) → R a → S a)
    → MatchOption o P R → MatchOption o Q S
answer-map None f g m = f m
answer-map (Some a) f g m = g a m
