-- What bytes spell first, where they begin with bytes that spell nothing yet.
use Rattle.std.proofs.Common.{◌≡◌, ℕ, ◌⊎◌, inl, inr, List, [], ◌∷◌, ◌++◌, Option, Some, None, refl, sym, ap, subst, ◌∙◌}
use Rattle.std.proofs.Common.{append_assoc, append-nil}
use Rattle.dl_num.specs.Front.{SpellsNowhere, SpellsFirst}

-- a front of two lists ends in the first one, or in the second
pub split_front : (head w front back : List ℕ) → head ++ w ≡ front ++ back
    → ((y : ℕ) × (z : List ℕ) × (head ≡ front ++ y ∷ z)) ⊎ ((u : List ℕ) × (front ≡ head ++ u) × (w ≡ u ++ back))
split_front [] w front back e = inr (front, refl, e)
split_front (a ∷ head) w [] back e = inl (a, head, refl)
split_front (a ∷ head) w (b ∷ front) back e =
    let s : a ≡ b = cc in
    let t : head ++ w ≡ front ++ back = cc in
    elim (split_front head w front back t) [
      | inl p ↦ inl (p.0, p.1, ap (λ (z : List ℕ). a ∷ z) p.2 ∙ ap (λ (z : ℕ). z ∷ (front ++ p.0 ∷ p.1)) s)
      | inr q ↦ inr (q.0, ap (λ (z : List ℕ). b ∷ z) q.1 ∙ ap (λ (z : ℕ). z ∷ (head ++ q.0)) (sym s), q.2)
    ]

-- the proper fronts of some bytes spell nothing
abbrev pub IsOpen : {A : Type 0} → (List ℕ → Option A) → List ℕ → Type 0
IsOpen {A} spelt head =
    (front : List ℕ) (x : ℕ) (back : List ℕ) → head ≡ front ++ x ∷ back → ◌≡◌ {A = Option A} (spelt front) None

no_nil : (front : List ℕ) (x : ℕ) (back : List ℕ) → ◌≡◌ {A = List ℕ} [] (front ++ x ∷ back) → ⊥
no_nil [] x back e = absurd cc
no_nil (b ∷ front) x back e = absurd cc

pub nil_front : (front back : List ℕ) → ◌≡◌ {A = List ℕ} [] (front ++ back) → front ≡ []
nil_front [] back e = refl
nil_front (b ∷ front) back e = absurd cc

-- one byte has only the empty front
pub open_byte : {A : Type 0} (spelt : List ℕ → Option A) (b : ℕ) → ◌≡◌ {A = Option A} (spelt []) None
    → IsOpen spelt (b ∷ [])
open_byte spelt b none [] x back e = none
open_byte spelt b none (a ∷ front) x back e = absurd (no_nil front x back cc)

-- no bytes spell what they are first
pub first_nil : {A : Type 0} (spelt : List ℕ → Option A) (a : A) → spelt [] ≡ Some a → SpellsFirst spelt [] a
first_nil spelt a e = record { spells = e; shortest = λ front x back k. absurd (no_nil front x back k) }

pub nowhere_nil : {A : Type 0} (spelt : List ℕ → Option A) → ◌≡◌ {A = Option A} (spelt []) None → SpellsNowhere spelt []
nowhere_nil {A = A} spelt none front back e =
    subst (λ (z : List ℕ). ◌≡◌ {A = Option A} (spelt z) None) (sym (nil_front front back e)) none

open_nil : {A : Type 0} (spelt : List ℕ → Option A) → IsOpen spelt []
open_nil spelt front x back e = absurd (no_nil front x back e)

-- ---- bytes after a head

-- v is a head, after which f makes of bytes what g does, and u
pub record At {A : Type 0} (f g : List ℕ → Option A) (v u : List ℕ) : Type 0 where
  pub head : List ℕ
  pub whole : v ≡ head ++ u
  pub begun : IsOpen f head
  pub same : (w : List ℕ) → ◌≡◌ {A = Option A} (f (head ++ w)) (g w)

pub at_nowhere : {A : Type 0} {f g : List ℕ → Option A} {v u : List ℕ} (x : List ℕ) → At f g v u
    → SpellsNowhere g (u ++ x) → SpellsNowhere f (v ++ x)
at_nowhere {A} {f} {v = v} {u = u} x a none front back e =
    let whole : a.head ++ (u ++ x) ≡ front ++ back =
    sym (append_assoc a.head u x) ∙ ap (λ (z : List ℕ). z ++ x) (sym a.whole) ∙ e in
    elim (split_front a.head (u ++ x) front back whole) [
      | inl p ↦ a.begun front p.0 p.1 p.2
      | inr q ↦ rw q.1 (a.same q.0 ∙ none q.0 back q.2)
    ]

pub at_first : {A : Type 0} {f g : List ℕ → Option A} {v u : List ℕ} {r : A} (x : List ℕ) → At f g v u
    → SpellsFirst g (u ++ x) r → SpellsFirst f (v ++ x) r
at_first {A} {f} {v = v} {u = u} x a first =
    let whole : v ++ x ≡ a.head ++ (u ++ x) = ap (λ (z : List ℕ). z ++ x) a.whole ∙ append_assoc a.head u x in
    record {
      spells = ap f whole ∙ a.same (u ++ x) ∙ first.spells;
      shortest = λ front y back e. elim (split_front a.head (u ++ x) front (y ∷ back) (sym whole ∙ e)) [
        | inl p ↦ a.begun front p.0 p.1 p.2
        | inr q ↦ rw q.1 (a.same q.0 ∙ first.shortest q.0 y back q.2)
      ];
    }

-- where no more bytes follow
pub at_here : {A : Type 0} {f g : List ℕ → Option A} {v u : List ℕ} {r : A} → At f g v u → SpellsFirst g u r
    → SpellsFirst f v r
at_here {v = v} {u = u} {r = r} a first = rw (append-nil v) at (at_first {r = r} [] a (rw (append-nil u) first))

pub nowhere_here : {A : Type 0} {f g : List ℕ → Option A} {v u : List ℕ} → At f g v u → SpellsNowhere g u
    → SpellsNowhere f v
nowhere_here {v = v} {u = u} a none = rw (append-nil v) at (at_nowhere [] a (rw (append-nil u) none))

-- after one byte
pub at_byte : {A : Type 0} (f g : List ℕ → Option A) (b : ℕ) (u : List ℕ) → ◌≡◌ {A = Option A} (f []) None
    → ((w : List ℕ) → ◌≡◌ {A = Option A} (f (b ∷ w)) (g w)) → At f g (b ∷ u) u
at_byte f g b u none same = record { head = b ∷ []; whole = refl; begun = open_byte f b none; same = same }

-- the same of two functions that agree
pub at_same : {A : Type 0} (f g : List ℕ → Option A) (u : List ℕ) → ((w : List ℕ) → ◌≡◌ {A = Option A} (f w) (g w))
    → At f g u u
at_same f g u same = record { head = []; whole = refl; begun = open_nil f; same = same }

-- after one head and another
pub at_join : {A : Type 0} {f g k : List ℕ → Option A} {v u t : List ℕ} → At f g v u → At g k u t → At f k v t
at_join {A} {f} {t = t} a c = record {
  head = a.head ++ c.head;
  whole = a.whole ∙ ap (λ (z : List ℕ). a.head ++ z) c.whole ∙ sym (append_assoc a.head c.head t);
  begun = λ front x back e. elim (split_front a.head c.head front (x ∷ back) e) [
    | inl p ↦ a.begun front p.0 p.1 p.2
    | inr q ↦ rw q.1 (a.same q.0 ∙ c.begun q.0 x back q.2)
  ];
  same = λ w. ap f (append_assoc a.head c.head w) ∙ a.same (c.head ++ w) ∙ c.same w;
}
