-- What stands at the front of bytes: cutting may stop anywhere and go on, and there is one cut.
use Rattle.std.proofs.Common.{◌≡◌, ℕ, List, [], ◌∷◌, ◌++◌, Option, Some, None, refl, sym, ap, subst, ◌∙◌, append_assoc}
use Rattle.std.proofs.lemmas.List.{append-nil}
use Rattle.dl_num.specs.Front.{SpellsNowhere, IsCut, Standing, with_found, standing_after, standing}
use Rattle.dl_num.specs.Laws.{CutIsStanding}

-- what stands first, and then
abbrev pub then_standing : {A : Type 0} → Standing A → Standing A → Standing A
then_standing s t = record { found = s.found ++ t.found; rest = t.rest }

-- what stands after one more byte x, where begun and x spell o
abbrev pub standing_on : {A : Type 0} → (List ℕ → Option A) → List ℕ → Option A → List ℕ → Standing A
standing_on spelt begun o b =
    elim o [ Some a ↦ with_found a (standing_after spelt [] b) | None ↦ standing_after spelt begun b ]

pub standing_after-append : {A : Type 0} (spelt : List ℕ → Option A) (begun b c : List ℕ)
    → standing_after spelt begun (b ++ c)
    ≡ then_standing (standing_after spelt begun b) (standing_after spelt (standing_after spelt begun b).rest c)
standing_after-append spelt begun [] c = refl
standing_after-append {A = A} spelt begun (x ∷ b) c =
    elim (spelt (begun ++ x ∷ [])) as (λ o. standing_on spelt (begun ++ x ∷ []) o (b ++ c)
    ≡ then_standing (standing_on spelt (begun ++ x ∷ []) o b)
    (standing_after spelt (standing_on spelt (begun ++ x ∷ []) o b).rest c)) [
      | Some a ↦ ap (with_found a) (standing_after-append spelt [] b c)
      | None ↦ standing_after-append spelt (begun ++ x ∷ []) b c
    ]

-- what stands at the front of b ++ c
pub standing-append : {A : Type 0} (spelt : List ℕ → Option A) (b c : List ℕ)
    → standing spelt (b ++ c) ≡ then_standing (standing spelt b) (standing_after spelt (standing spelt b).rest c)
standing-append spelt b c = standing_after-append spelt [] b c

-- where no bytes on the way spell anything, nothing is found
pub nothing_yet : {A : Type 0} (spelt : List ℕ → Option A) (begun b : List ℕ)
    → ((front : List ℕ) (x : ℕ) (back : List ℕ) → b ≡ front ++ x ∷ back
    → ◌≡◌ {A = Option A} (spelt (begun ++ (front ++ x ∷ []))) None)
    → standing_after spelt begun b ≡ record { found = []; rest = begun ++ b }
nothing_yet {A = A} spelt begun [] h =
    ap (λ (z : List ℕ). let s : Standing A = record { found = []; rest = z } in s) (sym (append-nil begun))
nothing_yet {A = A} spelt begun (x ∷ b) h =
    let none : ◌≡◌ {A = Option A} None (spelt (begun ++ x ∷ [])) = sym (h [] x b refl) in
    let s : List ℕ → Standing A = λ z. record { found = []; rest = z } in
    let later =
    nothing_yet spelt (begun ++ x ∷ []) b (λ front y back e. rw (append_assoc begun (x ∷ []) (front ++ y ∷ []))
    (h (x ∷ front) y back (ap (λ (z : List ℕ). x ∷ z) e))) in
    let after : standing_after spelt (begun ++ x ∷ []) b ≡ s (begun ++ x ∷ b) =
    later ∙ ap s (append_assoc begun (x ∷ []) b) in
    subst (λ (o : Option A). standing_on spelt (begun ++ x ∷ []) o b ≡ s (begun ++ x ∷ b)) none after

-- the first spelling is found
pub found_first : {A : Type 0} (spelt : List ℕ → Option A) (begun : List ℕ) (x : ℕ) (w v : List ℕ) (a : A)
    → spelt (begun ++ x ∷ w) ≡ Some a
    → ((front : List ℕ) (y : ℕ) (back : List ℕ) → x ∷ w ≡ front ++ y ∷ back
    → ◌≡◌ {A = Option A} (spelt (begun ++ front)) None)
    → standing_after spelt begun (x ∷ w ++ v) ≡ with_found a (standing_after spelt [] v)
found_first {A = A} spelt begun x [] v a e h =
    subst (λ (o : Option A). standing_on spelt (begun ++ x ∷ []) o v ≡ with_found a (standing_after spelt [] v))
    (sym e) refl
found_first {A = A} spelt begun x (y ∷ w) v a e h =
    let none : ◌≡◌ {A = Option A} None (spelt (begun ++ x ∷ [])) = sym (h (x ∷ []) y w refl) in
    let spells : spelt (begun ++ x ∷ [] ++ y ∷ w) ≡ Some a = rw (append_assoc begun (x ∷ []) (y ∷ w)) e in
    let later =
    found_first spelt (begun ++ x ∷ []) y w v a spells
    (λ front z back k. rw (append_assoc begun (x ∷ []) front)
    (h (x ∷ front) z back (ap (λ (l : List ℕ). x ∷ l) k))) in
    subst (λ (o : Option A). standing_on spelt (begun ++ x ∷ []) o (y ∷ w ++ v)
    ≡ with_found a (standing_after spelt [] v)) none later

append-nil_left : (v w : List ℕ) → v ++ w ≡ [] → v ≡ []
append-nil_left [] w e = refl
append-nil_left (x ∷ v) w e = absurd cc

some_none : {A : Type 0} (o : Option A) (a : A) → o ≡ Some a → o ≡ None → ⊥
some_none {A = A} o a e f = let g : ◌≡◌ {A = Option A} (Some a) None = sym e ∙ f in absurd cc

-- any cut is the computed one
cut_is_standing : {A : Type 0} (spelt : List ℕ → Option A) → ◌≡◌ {A = Option A} (spelt []) None
    → (found : List A) (b rest : List ℕ) → IsCut spelt b found rest
    → standing spelt b ≡ record { found = found; rest = rest }
cut_is_standing spelt empty [] b rest cut =
    rw cut.0
    (nothing_yet spelt [] rest (λ front x back e. cut.1 (front ++ x ∷ []) back (e
    ∙ sym (append_assoc front (x ∷ []) back))))
cut_is_standing spelt empty (a ∷ found) b rest (([]), v, e, first, cut) =
    absurd (some_none (spelt []) a first.spells empty)
cut_is_standing spelt empty (a ∷ found) b rest ((x ∷ w), v, e, first, cut) =
    rw e (found_first spelt [] x w v a first.spells first.shortest
    ∙ ap (with_found a) (cut_is_standing spelt empty found v rest cut))

-- a front that leaves a byte is a front of what the last byte follows
pub front_before : (begun front : List ℕ) (x y : ℕ) (back : List ℕ) → begun ++ x ∷ [] ≡ front ++ y ∷ back
    → (z : List ℕ) × (begun ≡ front ++ z)
front_before begun [] x y back e = (begun, refl)
front_before [] (a ∷ []) x y back e = absurd cc
front_before [] (a ∷ c ∷ front) x y back e = absurd cc
front_before (b ∷ begun) (a ∷ front) x y back e =
    let k : begun ++ x ∷ [] ≡ front ++ y ∷ back = cc in
    let same : b ≡ a = cc in
    let r = front_before begun front x y back k in
    (r.0, rw same (ap (λ (l : List ℕ). a ∷ l) r.1))

nowhere_more : {A : Type 0} (spelt : List ℕ → Option A) (begun : List ℕ) (x : ℕ) → SpellsNowhere spelt begun
    → ◌≡◌ {A = Option A} (spelt (begun ++ x ∷ [])) None
    → SpellsNowhere spelt (begun ++ x ∷ [])
nowhere_more {A = A} spelt begun x h none front [] e =
    subst (λ (l : List ℕ). ◌≡◌ {A = Option A} (spelt l) None) (e ∙ append-nil front) none
nowhere_more spelt begun x h none front (y ∷ back) e = let r = front_before begun front x y back e in h front r.0 r.1

-- the cut of what follows, and one byte before it
cut_with : {A : Type 0} (spelt : List ℕ → Option A) → ◌≡◌ {A = Option A} (spelt []) None → (begun b : List ℕ) (x : ℕ)
    → SpellsNowhere spelt begun
    → ((w : List ℕ) → SpellsNowhere spelt w
    → IsCut spelt (w ++ b) (standing_after spelt w b).found (standing_after spelt w b).rest)
    → (o : Option A) → spelt (begun ++ x ∷ []) ≡ o
    → IsCut spelt (begun ++ x ∷ b) (standing_on spelt (begun ++ x ∷ []) o b).found
    (standing_on spelt (begun ++ x ∷ []) o b).rest
cut_with {A = A} spelt empty begun b x h later (Some a) e = (
  begun ++ x ∷ [],
  b,
  sym (append_assoc begun (x ∷ []) b),
  record { spells = e; shortest = λ front y back k. (let r = front_before begun front x y back k in h front r.0 r.1) },
  later [] (λ front back k. subst (λ (l : List ℕ). ◌≡◌ {A =
      Option A} (spelt l) None) (sym (append-nil_left front back (sym k))) empty),
)
cut_with spelt empty begun b x h later None e =
    subst (λ (l : List ℕ). IsCut spelt l (standing_after spelt (begun ++ x ∷ []) b).found
    (standing_after spelt (begun ++ x ∷ []) b).rest)
    (append_assoc begun (x ∷ []) b) (later (begun ++ x ∷ []) (nowhere_more spelt begun x h e))

-- the computed one is a cut
standing_is_cut : {A : Type 0} (spelt : List ℕ → Option A) → ◌≡◌ {A = Option A} (spelt []) None → (b begun : List ℕ)
    → SpellsNowhere spelt begun
    → IsCut spelt (begun ++ b) (standing_after spelt begun b).found (standing_after spelt begun b).rest
standing_is_cut spelt empty [] begun h = (append-nil begun, h)
standing_is_cut spelt empty (x ∷ b) begun h =
    cut_with spelt empty begun b x h (λ w k. standing_is_cut spelt empty b w k) (spelt (begun ++ x ∷ [])) refl

pub one_cut : (A : Type 0) → CutIsStanding A
one_cut A spelt b found rest empty = (
  λ cut. cut_is_standing spelt empty found b rest cut,
  λ e. subst (λ (s : Standing A). IsCut spelt b s.found s.rest) e
      (standing_is_cut spelt empty b [] (λ front back k. subst (λ (l : List ℕ). ◌≡◌ {A =
      Option A} (spelt l) None) (sym (append-nil_left front back (sym k))) empty)),
)
