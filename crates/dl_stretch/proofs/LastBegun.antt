-- The last item that begins at an address or before it.
use Rattle.std.proofs.Common.{◌≡◌, ℕ, zero, suc, ◌<◌, ◌≤◌, Bool, List, [], ◌∷◌, ◌++◌, reverse, length, get_or, Option, Some}
use Rattle.std.proofs.Common.{None, arith, refl, ap, ap₂, ◌∙◌}
use Rattle.std.specs.Prelude.{if◌then◌else◌, nat_le}
use Rattle.std.specs.List.{find}
use Rattle.std.specs.Option.{option_or}
use Rattle.std.proofs.lemmas.Bool.{le-leb, lt-leb}
use Rattle.std.proofs.lemmas.List.Folds.{find-append}
use Rattle.std.proofs.lemmas.List.{reverse-append}
use Rattle.dl_stretch.specs.Stretches.{last_begun, Neighbours}

-- each begins above the one before it
abbrev pub Rise : {A : Type 0} → (A → ℕ) → List A → Type 0
Rise start items = Neighbours (λ x y. start x < start y) items

pub rest_rises : {A : Type 0} (start : A → ℕ) (x : A) (xs : List A) → Rise start (x ∷ xs) → Rise start xs
rest_rises start x [] r = tt
rest_rises start x (y ∷ xs) (less, r) = r

-- the item where it has begun
abbrev pub if_begun : {A : Type 0} → (A → ℕ) → A → ℕ → Option A
if_begun start x a = if nat_le (start x) a then Some x else None

pub if_begun_here : {A : Type 0} (start : A → ℕ) (x : A) (a : ℕ) → start x ≤ a → if_begun start x a ≡ Some x
if_begun_here start x a le = ap (λ (b : Bool). if b then Some x else None) (le-leb (start x) a le)

pub if_begun_later : {A : Type 0} (start : A → ℕ) (x : A) (a : ℕ) → a < start x → if_begun start x a ≡ None
if_begun_later start x a lt = ap (λ (b : Bool). if b then Some x else None) (lt-leb (start x) a lt)

pub last_begun-cons : {A : Type 0} (start : A → ℕ) (x : A) (xs : List A) (a : ℕ)
    → last_begun start (x ∷ xs) a ≡ option_or (last_begun start xs a) (if_begun start x a)
last_begun-cons start x xs a =
    ap (find (λ x. nat_le (start x) a)) (reverse-append (x ∷ []) xs)
    ∙ find-append (λ x. nat_le (start x) a) (reverse xs) (x ∷ [])

pub last_begun-push : {A : Type 0} (start : A → ℕ) (xs : List A) (x : A) (a : ℕ)
    → last_begun start (xs ++ x ∷ []) a ≡ (if nat_le (start x) a then Some x else last_begun start xs a)
last_begun-push start xs x a = ap (find (λ x. nat_le (start x) a)) (reverse-append xs (x ∷ []))

-- what rises from above a is above a
pub none_begun : {A : Type 0} (start : A → ℕ) (x : A) (xs : List A) (a : ℕ) → Rise start (x ∷ xs) → a < start x
    → last_begun start (x ∷ xs) a ≡ None
none_begun start x [] a rise lt = if_begun_later start x a lt
none_begun start x (y ∷ xs) a (less, rise) lt =
    last_begun-cons start x (y ∷ xs) a
    ∙ ap₂ option_or (none_begun start y xs a rise (omega arith)) (if_begun_later start x a lt)

-- an item that begins above all others, at the end
pub rise_push : {A : Type 0} (start : A → ℕ) (xs : List A) (y : A) → Rise start xs
    → ((k : ℕ) (d : A) → k < length xs → start (get_or xs k d) < start y) → Rise start (xs ++ y ∷ [])
rise_push start [] y r below = tt
rise_push start (x ∷ []) y r below = (below 0 x (omega arith), tt)
rise_push start (x ∷ z ∷ xs) y (less, r) below =
    (less, rise_push start (z ∷ xs) y r (λ k d lt. below (suc k) d (omega arith)))

-- the items before one at the end
pub rise_front : {A : Type 0} (start : A → ℕ) (xs : List A) (y : A) → Rise start (xs ++ y ∷ []) → Rise start xs
rise_front start [] y r = tt
rise_front start (x ∷ []) y r = tt
rise_front start (x ∷ z ∷ xs) y (less, r) = (less, rise_front start (z ∷ xs) y r)

-- they begin below it
pub front_below : {A : Type 0} (start : A → ℕ) (xs : List A) (y : A) → Rise start (xs ++ y ∷ []) → (k : ℕ) (d : A)
    → k < length xs → start (get_or xs k d) < start y
front_below start [] y r k d lt = absurd (omega arith)
front_below start (x ∷ []) y (less, r) zero d lt = less
front_below start (x ∷ []) y r (suc k) d lt = absurd (omega arith)
front_below start (x ∷ z ∷ xs) y (less, r) zero d lt =
    let h = front_below start (z ∷ xs) y r 0 d (omega arith) in omega (arith, less, h)
front_below start (x ∷ z ∷ xs) y (less, r) (suc k) d lt = front_below start (z ∷ xs) y r k d (omega arith)

-- ---- by numbers

head_below : {A : Type 0} (start : A → ℕ) (x : A) (xs : List A) → Rise start (x ∷ xs) → (k : ℕ) (d : A) → k < length xs
    → start x < start (get_or xs k d)
head_below start x [] r k d lt = absurd (omega arith)
head_below start x (y ∷ xs) (less, r) zero d lt = less
head_below start x (y ∷ xs) (less, r) (suc k) d lt =
    let h = head_below start y xs r k d (omega arith) in omega (arith, less, h)

pub rise_at : {A : Type 0} (start : A → ℕ) (xs : List A) → Rise start xs → (j k : ℕ) (d : A) → j < k → k < length xs
    → start (get_or xs j d) < start (get_or xs k d)
rise_at start [] r j k d less lt = absurd (omega arith)
rise_at start (x ∷ xs) r zero zero d less lt = absurd (omega arith)
rise_at start (x ∷ xs) r zero (suc k) d less lt = head_below start x xs r k d (omega arith)
rise_at start (x ∷ xs) r (suc j) zero d less lt = absurd (omega arith)
rise_at start (x ∷ xs) r (suc j) (suc k) d less lt =
    rise_at start xs (rest_rises start x xs r) j k d (omega arith) (omega arith)

pub none_at : {A : Type 0} (start : A → ℕ) (xs : List A) (a : ℕ) (d : A) → Rise start xs
    → (0 < length xs → a < start (get_or xs 0 d)) → last_begun start xs a ≡ None
none_at start [] a d r above = refl
none_at start (x ∷ xs) a d r above = none_begun start x xs a r (above (omega arith))

-- the item n has begun, and the next one hasn't
pub some_at : {A : Type 0} (start : A → ℕ) (xs : List A) (a n : ℕ) (d : A) → Rise start xs → n < length xs
    → start (get_or xs n d) ≤ a → (suc n < length xs → a < start (get_or xs (suc n) d))
    → last_begun start xs a ≡ Some (get_or xs n d)
some_at start [] a n d r lt upto above = absurd (omega arith)
some_at start (x ∷ xs) a zero d r lt upto above =
    last_begun-cons start x xs a
    ∙ ap₂ option_or (none_at start xs a d (rest_rises start x xs r) (λ h. above (omega arith)))
    (if_begun_here start x a upto)
some_at start (x ∷ xs) a (suc n) d r lt upto above =
    last_begun-cons start x xs a
    ∙ ap (λ o. option_or o (if_begun start x a))
    (some_at start xs a n d (rest_rises start x xs r) (omega arith) upto (λ h. above (omega arith)))
