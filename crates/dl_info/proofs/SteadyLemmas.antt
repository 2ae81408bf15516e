-- What is read of some bytes, and of the same bytes with others behind.
use Rattle.std.proofs.Common.{◌≡◌, ℕ, ◌+◌, ◌-◌, ◌<◌, ◌≤◌, Bool, true, false, cond, List, [], ◌∷◌, ◌++◌, length}
use Rattle.std.specs.Prelude.{◌==◌, IfSome, option_map}
use Rattle.std.proofs.Common.{Option, Some, None, Result, Ok, Err, refl, sym, ap, subst, ◌∙◌, arith, inl, inr, length-append}
use Rattle.std.proofs.lemmas.Bool.{cases_Bool, cases_lt, lt-ltb, le-ltb}
use Rattle.std.proofs.lemmas.List.{append-nil, drop-append-le, nil_from_length, take-append-le}
use Rattle.dl_num.specs.declared.fixed.Order.{Order}
use Rattle.dl_num.specs.LebFront.{is_leb, leb_front, after_leb}
use Rattle.dl_num.proofs.LebFrontLemmas.{leb_front-append, leb_front-le}
use Rattle.dl_table.specs.Text.{text_in}
use Rattle.dl_info.specs.declared.front.FieldFault.{FieldFault}
use Rattle.dl_info.specs.declared.front.FieldFault.TheVariants.{Short, Damaged}
use Rattle.dl_info.specs.Front.{◌>>=◌, bytes_at, fixed_at, leb_at, or_damaged, text_at, text_and_rest, uleb_at}

-- what was read stays; where bytes are wanted, at least one is, and so many less with others behind that are fewer
abbrev pub Continues : {A : Type 0} → Result (A × List ℕ) FieldFault → (c : List ℕ) → Result (A × List ℕ) FieldFault → Type 0
Continues (Ok x) c after = after ≡ Ok (x.0, x.1 ++ c)
Continues (Err Damaged) c after = after ≡ Err Damaged
Continues (Err (Short n)) c after = (1 ≤ n) × (length c < n → after ≡ Err (Short (n - length c)))

pub record Steady {A : Type 0} (read : List ℕ → Result (A × List ℕ) FieldFault) : Type 0 where
  pub continues : (b c : List ℕ) → Continues (read b) c (read (b ++ c))

-- ---- one after the other

abbrev pub afterwards : {A B : Type 0} → (A → List ℕ → Result (B × List ℕ) FieldFault) → Result (A × List ℕ) FieldFault
    → Result (B × List ℕ) FieldFault
afterwards next r = r >>= λ x. next x.0 x.1

then_continues : {A B : Type 0} (next : A → List ℕ → Result (B × List ℕ) FieldFault) (now after : Result (A × List ℕ) FieldFault)
    (c : List ℕ) → Continues now c after → ((x : A) → Steady (next x))
    → Continues (afterwards next now) c (afterwards next after)
then_continues next (Ok x) after c same steady =
    subst (λ r. Continues (next x.0 x.1) c (afterwards next r)) (sym same) ((steady x.0).continues x.1 c)
then_continues next (Err Damaged) after c same steady = ap (afterwards next) same
then_continues next (Err (Short n)) after c same steady = (same.0, λ few. ap (afterwards next) (same.1 few))

pub steady_then : {A B : Type 0} (read : List ℕ → Result (A × List ℕ) FieldFault)
    (next : A → List ℕ → Result (B × List ℕ) FieldFault) → Steady read → ((x : A) → Steady (next x))
    → Steady (λ b. afterwards next (read b))
steady_then read next first steady =
    record { continues = λ b c. then_continues next (read b) (read (b ++ c)) c (first.continues b c) steady }

pub steady_done : {A : Type 0} (x : A) → Steady (λ b. Ok (x, b))
steady_done x = record { continues = λ b c. refl }

pub steady_damaged : {A : Type 0} → Steady {A = A} (λ b. Err Damaged)
steady_damaged = record { continues = λ b c. refl }

pub steady_if : {A : Type 0} (t : Bool) (f g : List ℕ → Result (A × List ℕ) FieldFault) → Steady f → Steady g
    → Steady (λ b. cond t (f b) (g b))
steady_if true f g sf sg = sf
steady_if false f g sf sg = sg

pub steady_or_damaged : {A B : Type 0} (o : Option A) (next : A → List ℕ → Result (B × List ℕ) FieldFault)
    → ((x : A) → Steady (next x)) → Steady (λ b. or_damaged o >>= λ x. next x b)
steady_or_damaged (Some x) next steady = steady x
steady_or_damaged None next steady = steady_damaged

-- ---- fields

bytes_continue : (n : ℕ) (b c : List ℕ) → Continues (bytes_at n b) c (bytes_at n (b ++ c))
bytes_continue n b c = elim (cases_lt (length b) n) [
  | inl less ↦ rw (lt-ltb (length b) n less) (
    omega (arith, less),
    λ few.
        let still : length (b ++ c) < n = omega (arith, few, length-append b c) in
        let left : n - length (b ++ c) ≡ n - length b - length c = omega (arith, length-append b c) in
        rw (lt-ltb (length (b ++ c)) n still, left) refl,
  )
  | inr enough ↦
      let still : n ≤ length (b ++ c) = omega (arith, enough, length-append b c) in
      rw (
        le-ltb (length b) n enough,
        le-ltb (length (b ++ c)) n still,
        take-append-le n b c enough,
        drop-append-le n b c enough,
      ) refl
]

pub steady_bytes : (n : ℕ) → Steady (bytes_at n)
steady_bytes n = record { continues = bytes_continue n }

pub steady_fixed : (order : Order) (n : ℕ) → Steady (fixed_at order n)
unfolding fixed_at
steady_fixed order n = steady_then (bytes_at n) _ (steady_bytes n) (λ w. steady_done _)

-- fewer than one are none
more_than_none : {A : Type 0} (read : List ℕ → Result (A × List ℕ) FieldFault) (b c : List ℕ) → read b ≡ Err (Short 1)
    → length c < 1 → read (b ++ c) ≡ Err (Short (1 - length c))
more_than_none read b c short few =
    let none : c ≡ [] = nil_from_length c (omega (arith, few)) in
    rw none (ap read (append-nil b) ∙ short)

-- a reading that ends inside a field wants one byte at least
one_wanted : {A : Type 0} (read : List ℕ → Result (A × List ℕ) FieldFault) (b c : List ℕ) → read b ≡ Err (Short 1)
    → Continues (read b) c (read (b ++ c))
one_wanted read b c short =
    subst (λ r. Continues r c (read (b ++ c))) (sym short)
    (omega arith, λ few. more_than_none read b c short few)

told_again : {A : Type 0} (read : List ℕ → Result (A × List ℕ) FieldFault) (b c : List ℕ) (x : A) (rest : List ℕ)
    → read b ≡ Ok (x, rest) → read (b ++ c) ≡ Ok (x, rest ++ c) → Continues (read b) c (read (b ++ c))
told_again read b c x rest now after = subst (λ r. Continues r c (read (b ++ c))) (sym now) after

leb_told : (b : List ℕ) → is_leb (leb_front b) ≡ true → leb_at b ≡ Ok (leb_front b, after_leb b)
leb_told b is = rw is refl

leb_short : (b : List ℕ) → is_leb (leb_front b) ≡ false → leb_at b ≡ Err (Short 1)
leb_short b none = rw none refl

leb_longer : (b c : List ℕ) → is_leb (leb_front b) ≡ true → leb_at (b ++ c) ≡ Ok (leb_front b, after_leb b ++ c)
leb_longer b c is =
    let same : leb_front (b ++ c) ≡ leb_front b = leb_front-append b c is in
    rw (same, is, drop-append-le (length (leb_front b)) b c (leb_front-le b)) refl

leb_continues : (b c : List ℕ) → Continues (leb_at b) c (leb_at (b ++ c))
leb_continues b c = elim (cases_Bool (is_leb (leb_front b))) [
  | inl is ↦ told_again leb_at b c (leb_front b) (after_leb b) (leb_told b is) (leb_longer b c is)
  | inr none ↦ one_wanted leb_at b c (leb_short b none)
]

pub steady_leb : Steady leb_at
steady_leb = record { continues = leb_continues }

pub steady_uleb : Steady uleb_at
unfolding uleb_at
steady_uleb = steady_then leb_at _ steady_leb (λ w. steady_if _ _ _ (steady_done _) steady_damaged)

-- the text at the front, if there is one, whatever follows
pub text_stays : (b c : List ℕ) → IfSome (text_in b) (λ t. (text_in (b ++ c) ≡ Some t) × (length t < length b))
text_stays [] c = tt
text_stays (x ∷ b) c = elim (cases_Bool (x == 0)) [
  | inl is ↦ rw is (refl, omega arith)
  | inr other ↦ rw other (longer x b c (text_in b) (text_in (b ++ c)) (text_stays b c))
] where
  longer : (x : ℕ) (b c : List ℕ) (now after : Option (List ℕ))
      → IfSome now (λ t. (after ≡ Some t) × (length t < length b))
      → IfSome (option_map (λ t. x ∷ t) now)
      (λ t. (option_map (λ t. x ∷ t) after ≡ Some t) × (length t < length (x ∷ b)))
  longer x b c None after h = tt
  longer x b c (Some t) after h = (ap (option_map (λ t. x ∷ t)) h.0, omega (arith, h.1))

text_continues : (b c : List ℕ) (now : Option (List ℕ)) → now ≡ text_in b
    → IfSome now (λ t. (text_in (b ++ c) ≡ Some t) × (length t < length b))
    → Continues (text_and_rest b now) c (text_at (b ++ c))
text_continues b c None is h =
    (omega arith, λ few. more_than_none text_at b c (ap (text_and_rest b) (sym is)) few)
text_continues b c (Some t) is h =
    let within : length t + 1 ≤ length b = omega (arith, h.1) in
    ap (text_and_rest (b ++ c)) h.0 ∙ ap (λ rest. Ok (t, rest)) (drop-append-le (length t + 1) b c within)

pub steady_text : Steady text_at
steady_text = record { continues = λ b c. text_continues b c (text_in b) refl (text_stays b c) }
