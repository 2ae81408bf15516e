-- Options one after the other, and the fronts of lists.
use Rattle.dl_sections.proofs.Names.{◌++◌, ◌∙◌, ◌∷◌, ◌≡◌, ◌⊎◌, [], AllByRecursion, ap, arith, drop, drop_at, inl, inr}
use Rattle.dl_sections.proofs.Names.{length, length-append, List, None, Option, option_map, option_or, refl, Some, sym}
use Rattle.dl_sections.proofs.Names.{take, take_at}

-- ---- options

pub or_assoc : {A : Type 0} (a b c : Option A) → option_or (option_or a b) c ≡ option_or a (option_or b c)
or_assoc None b c = refl
or_assoc (Some x) b c = refl

pub or_none : {A : Type 0} (a : Option A) → option_or a None ≡ a
or_none None = refl
or_none (Some x) = refl

pub none_is_some : {A : Type 0} {x : A} → ◌≡◌ {A = Option A} None (Some x) → ⊥
none_is_some e = cc

pub value_same : {A : Type 0} (a b : A) → ◌≡◌ {A = Option A} (Some a) (Some b) → a ≡ b
value_same a b e = cc

pub neither : {A : Type 0} (a b : Option A) → option_or a b ≡ None → (a ≡ None) × (b ≡ None)
neither None b e = (refl, e)
neither (Some x) b e = absurd (none_is_some (sym e))

pub map_none : {A B : Type 0} (f : A → B) (a : Option A) → option_map f a ≡ None → a ≡ None
map_none f None e = refl
map_none f (Some x) e = absurd (none_is_some (sym e))

-- ---- lists

pub all_front : {A : Type 0} (P : A → Type 0) (xs ys : List A) → AllByRecursion P (xs ++ ys) → AllByRecursion P xs
all_front P [] ys all = tt
all_front P (x ∷ xs) ys all = (all.0, all_front P xs ys all.1)

pub all_middle : {A : Type 0} (P : A → Type 0) (xs : List A) (x : A) (ys : List A) → AllByRecursion P (xs ++ x ∷ ys)
    → P x
all_middle P [] x ys all = all.0
all_middle P (y ∷ xs) x ys all = all_middle P xs x ys all.1

-- fronts of one length are one
pub same_fronts : {A : Type 0} (u v x y : List A) → length u ≡ length v → u ++ x ≡ v ++ y → (u ≡ v) × (x ≡ y)
same_fronts u v x y len e = (
  sym (take_at u x (length v) len) ∙ ap (take (length v)) e ∙ take_at v y (length v) refl,
  sym (drop_at u x (length v) len) ∙ ap (drop (length v)) e ∙ drop_at v y (length v) refl,
)

-- of two fronts of a list one is a front of the other
pub fronts_of : {A : Type 0} (front : List A) (last : A) (rest heard more : List A)
    → front ++ last ∷ rest ≡ heard ++ more
    → ((x : List A) × (heard ≡ front ++ last ∷ x) × (rest ≡ x ++ more))
    ⊎ ((x : List A) × (front ≡ heard ++ x) × (more ≡ x ++ last ∷ rest))
fronts_of [] last rest [] more e = inr ([], refl, sym e)
fronts_of [] last rest (y ∷ heard) more e = inl (heard, cc, cc)
fronts_of (z ∷ front) last rest [] more e = inr (z ∷ front, refl, sym e)
fronts_of {A} (z ∷ front) last rest (y ∷ heard) more e = by (fronts_of front last rest heard more cc) where
  same : z ≡ y
  same = cc

  by : ((x : List A) × (heard ≡ front ++ last ∷ x) × (rest ≡ x ++ more))
      ⊎ ((x : List A) × (front ≡ heard ++ x) × (more ≡ x ++ last ∷ rest))
      → ((x : List A) × (y ∷ heard ≡ z ∷ front ++ last ∷ x) × (rest ≡ x ++ more))
      ⊎ ((x : List A) × (z ∷ front ≡ y ∷ heard ++ x) × (more ≡ x ++ last ∷ rest))
  by (inl (x, own, left)) = inl (x, rw (same, own) refl, left)
  by (inr (x, own, left)) = inr (x, rw (same, own) refl, left)

pub empty_both : {A : Type 0} (xs ys : List A) → xs ++ ys ≡ [] → (xs ≡ []) × (ys ≡ [])
empty_both [] ys e = (refl, e)
empty_both (x ∷ xs) ys e = absurd (omega (arith, ap length e, length-append xs ys))
