-- Stretches, one after the other.
use Rattle.std.proofs.Common.{◌≡◌, ◌≢◌, ℕ, suc, ◌-◌, ◌<◌, ◌≤◌, ◌^◌, Bool, true, false, inl, inr, List, [], ◌∷◌, Option, Some}
use Rattle.std.proofs.Common.{◌++◌, None, arith, refl, sym, ap, ap₂, subst, ◌∙◌}
use Rattle.std.specs.Prelude.{if◌then◌else◌, nat_le, nat_lt, is_none}
use Rattle.std.specs.List.{All}
use Rattle.std.specs.Option.{option_and_then, option_or}
use Rattle.std.proofs.lemmas.Bool.{false≢true, cases_lt, cases_order, lt-ltb, le-ltb, le-leb, lt-leb}
use Rattle.std.proofs.lemmas.List.Elements.{All-head, All-tail, All-nil, All-push, All-weaker}
use Rattle.dl_stretch.specs.declared.told.Told.{Told}
use Rattle.dl_stretch.specs.declared.stretch.Stretch.{Stretch}
use Rattle.dl_stretch.specs.Stretches.{last_begun, Neighbours, told_at, Apart, is_gap_first, AreStretches}
use Rattle.dl_stretch.specs.Laws.{AtAddresses, OneListOfStretches, LastIsGap}
use Rattle.dl_stretch.specs.Made.{last_told, AreMade}
use Rattle.dl_stretch.proofs.LastBegun.{last_begun-push, Rise, if_begun_here, last_begun-cons, none_begun}
use Rattle.dl_stretch.proofs.LastBegun.{rest_rises}

abbrev pub start_of : Stretch → ℕ
start_of s = s.start

pub rise : (s : List Stretch) → Neighbours Apart s → Rise start_of s
rise [] a = tt
rise (x ∷ []) a = tt
rise (x ∷ y ∷ s) (apart, rest) = (apart.0, rise (y ∷ s) rest)

-- what is told at a from the first stretch on, where before is told before it
abbrev pub told_from : Option Told → List Stretch → ℕ → Option Told
told_from before [] a = before
told_from before (s ∷ rest) a = if nat_lt a s.start then before else told_from s.told rest a

-- what a stretch tells, or before where there is none
abbrev told_or : Option Told → Option Stretch → Option Told
told_or before None = before
told_or before (Some s) = s.told

told_or-or : (before : Option Told) (x : Stretch) (o : Option Stretch)
    → told_or before (option_or o (Some x)) ≡ told_or x.told o
told_or-or before x None = refl
told_or-or before x (Some s) = refl

told_from-last : (before : Option Told) (s : List Stretch) (a : ℕ) → Rise start_of s
    → told_from before s a ≡ told_or before (last_begun start_of s a)
told_from-last before [] a r = refl
told_from-last before (x ∷ s) a r = elim (cases_lt a x.start) [
  | inl under ↦ ap (λ (b : Bool). if b then before else told_from x.told s a) (lt-ltb a x.start under)
      ∙ sym (ap (told_or before) (none_begun start_of x s a r under))
  | inr from ↦ ap (λ (b : Bool). if b then before else told_from x.told s a) (le-ltb a x.start from)
      ∙ told_from-last x.told s a (rest_rises start_of x s r)
      ∙ sym (ap (told_or before) (last_begun-cons start_of x s a
      ∙ ap (option_or (last_begun start_of s a)) (if_begun_here start_of x a from))
      ∙ told_or-or before x (last_begun start_of s a))
]

or-none : (o : Option Stretch) → told_or None o ≡ option_and_then (λ (s : Stretch). s.told) o
or-none None = refl
or-none (Some s) = refl

pub told_from-at : (s : List Stretch) (a : ℕ) → Rise start_of s → told_from None s a ≡ told_at s a
told_from-at s a r = told_from-last None s a r ∙ or-none (last_begun start_of s a)

-- stretches from low on, after something that tells otherwise than the first of them
abbrev pub From : ℕ → Option Told → List Stretch → Type 0
From low before [] = Unit {0}
From low before (x ∷ s) = (low ≤ x.start) × (x.start < 2 ^ 64) × (before ≢ x.told) × From (suc x.start) x.told s

pub before_first : (low : ℕ) (before : Option Told) (s : List Stretch) (a : ℕ) → From low before s → a < low
    → told_from before s a ≡ before
before_first low before [] a f lt = refl
before_first low before (x ∷ s) a f lt =
    ap (λ (b : Bool). if b then before else told_from x.told s a) (lt-ltb a x.start (omega (arith, f.0)))

pub at_first : (low : ℕ) (before : Option Told) (x : Stretch) (s : List Stretch) → From low before (x ∷ s)
    → told_from before (x ∷ s) x.start ≡ x.told
at_first low before x s f =
    ap (λ (b : Bool). if b then before else told_from x.told s x.start) (le-ltb x.start x.start (omega arith))
    ∙ before_first (suc x.start) x.told s x.start f.3 (omega arith)

after_first : (before : Option Told) (x : Stretch) (s : List Stretch) (a : ℕ) → suc x.start ≤ a
    → told_from before (x ∷ s) a ≡ told_from x.told s a
after_first before x s a le =
    ap (λ (b : Bool). if b then before else told_from x.told s a) (le-ltb a x.start (omega arith))

one : (low low' : ℕ) (before before' : Option Told) (s t : List Stretch) → low ≡ low' → before ≡ before'
    → From low before s → From low' before' t
    → ((a : ℕ) → low ≤ a → a < 2 ^ 64 → told_from before s a ≡ told_from before' t a) → s ≡ t
one low low' before before' [] [] n o f g same = refl
one low low' before before' [] (y ∷ t) n o f g same =
    absurd (g.2 (sym o ∙ same y.start (omega (arith, g.0)) g.1 ∙ at_first low' before' y t g))
one low low' before before' (x ∷ s) [] n o f g same =
    absurd (f.2 (o ∙ sym (same x.start f.0 f.1) ∙ at_first low before x s f))
one low low' before before' (x ∷ s) (y ∷ t) n o f g same = elim (cases_order x.start y.start) [
  | inl e ↦ (let told : x.told ≡ y.told =
      sym (at_first low before x s f) ∙ same x.start f.0 f.1 ∙ ap (told_from before' (y ∷ t)) e
      ∙ at_first low' before' y t g in
      let rest =
      one (suc x.start) (suc y.start) x.told y.told s t (ap suc e) told f.3 g.3
      (λ a le lt. sym (after_first before x s a le) ∙ same a (omega (arith, f.0, le)) lt
      ∙ after_first before' y t a (omega (arith, e, le))) in
      ap₂ (λ (h : Stretch) (l : List Stretch). h ∷ l)
      (ap₂ (λ (n : ℕ) (o : Option Told). let r : Stretch = record { start = n; told = o } in r) e told) rest)
  | inr (inl under) ↦ absurd (f.2 (o ∙ sym (before_first y.start before' (y ∷ t) x.start (omega arith, g.1, g.2, g.3)
      under) ∙ sym (same x.start f.0 f.1) ∙ at_first low before x s f))
  | inr (inr over) ↦ absurd (g.2 (sym o ∙ sym (before_first x.start before (x ∷ s) y.start (omega arith, f.1, f.2, f.3)
      over) ∙ same y.start (omega (arith, g.0)) g.1 ∙ at_first low' before' y t g))
]

from_apart : (low : ℕ) (before : Option Told) (x : Stretch) (s : List Stretch) → Neighbours Apart (x ∷ s)
    → AtAddresses (x ∷ s) → low ≤ x.start → before ≢ x.told → From low before (x ∷ s)
from_apart low before x [] apart all le ne = (le, All-head (λ (s : Stretch). s.start < 2 ^ 64) x [] all, ne, tt)
from_apart low before x (y ∷ s) (apart, rest) all le ne = (
  le,
  All-head (λ (s : Stretch). s.start < 2 ^ 64) x (y ∷ s) all,
  ne,
  from_apart (suc x.start) x.told y s rest (All-tail (λ (s : Stretch). s.start < 2 ^ 64) x (y ∷ s) all) (omega (arith, apart.0)) apart.1,
)

not_none : (o : Option Told) → None ≢ o → is_none o ≡ false
not_none None ne = absurd (ne refl)
not_none (Some t) ne = refl

no_gap : (o : Option Told) → is_none o ≡ false → None ≢ o
no_gap None e n = absurd (false≢true (sym e))
no_gap (Some t) e n = cc

pub from_start : (s : List Stretch) → Neighbours Apart s → AtAddresses s → is_gap_first s ≡ false → From 0 None s
from_start [] apart all first = tt
from_start (x ∷ s) apart all first = from_apart 0 None x s apart all (omega arith) (no_gap x.told first)

pub one_list : OneListOfStretches
one_list f s t are are' at at' =
    one 0 0 None None s t refl refl (from_start s are.apart at are.first) (from_start t are'.apart at' are'.first)
    (λ a le lt. told_from-at s a (rise s are.apart) ∙ are.right a lt
    ∙ sym (told_from-at t a (rise t are'.apart) ∙ are'.right a lt))

-- ---- stretches while they are made

-- a stretch at the end
stretch_more : (s : List Stretch) (x : Stretch) (a : ℕ)
    → told_at (s ++ x ∷ []) a ≡ (if nat_le x.start a then x.told else told_at s a)
stretch_more s x a =
    ap (option_and_then (λ (s : Stretch). s.told)) (last_begun-push start_of s x a)
    ∙ elim (nat_le x.start a) as (λ b. option_and_then (λ (s : Stretch). s.told) (if b then Some x
    else last_begun start_of s a) ≡ (if b then x.told else told_at s a)) [ true ↦ refl | false ↦ refl ]

some_first : (o : Option Stretch) (x : Stretch) → is_none o ≡ false
    → option_and_then (λ (s : Stretch). s.told) (option_or o (Some x)) ≡ option_and_then (λ (s : Stretch). s.told) o
some_first None x h = cc
some_first (Some y) x h = refl

or-some : (o : Option Stretch) (x : Stretch) → is_none (option_or o (Some x)) ≡ false
or-some None x = refl
or-some (Some y) x = refl

some_begun : (y : Stretch) (s : List Stretch) (a : ℕ) → y.start ≤ a → is_none (last_begun start_of (y ∷ s) a) ≡ false
some_begun y s a le =
    ap is_none (last_begun-cons start_of y s a
    ∙ ap (option_or (last_begun start_of s a)) (if_begun_here start_of y a le))
    ∙ or-some (last_begun start_of s a) y

-- after all stretches it is told what the last one tells
past_last : (s : List Stretch) (a : ℕ) → Neighbours Apart s → All (λ (x : Stretch). x.start ≤ a) s
    → told_at s a ≡ last_told s
past_last [] a apart below = refl
past_last (x ∷ []) a apart below =
    ap (option_and_then (λ (s : Stretch). s.told)) (if_begun_here start_of x a (below 0 x (omega arith)))
past_last (x ∷ y ∷ s) a (less, apart) below =
    let rest = All-tail (λ (x : Stretch). x.start ≤ a) x (y ∷ s) below in
    ap (option_and_then (λ (s : Stretch). s.told)) (last_begun-cons start_of x (y ∷ s) a
    ∙ ap (option_or (last_begun start_of (y ∷ s) a)) (if_begun_here start_of x a (below 0 x (omega arith))))
    ∙ some_first (last_begun start_of (y ∷ s) a) x (some_begun y s a (rest 0 y (omega arith)))
    ∙ past_last (y ∷ s) a apart rest

apart_push : (s : List Stretch) (x : Stretch) → Neighbours Apart s → All (λ (y : Stretch). y.start < x.start) s
    → last_told s ≢ x.told → Neighbours Apart (s ++ x ∷ [])
apart_push [] x apart below ne = tt
apart_push (y ∷ []) x apart below ne = ((below 0 y (omega arith), ne), tt)
apart_push (y ∷ z ∷ s) x (less, apart) below ne = (
  less,
  apart_push (z ∷ s) x apart (All-tail (λ (y : Stretch). y.start < x.start) y (z ∷ s) below) ne,
)

first_push : (s : List Stretch) (x : Stretch) → is_gap_first s ≡ false → last_told s ≢ x.told
    → is_gap_first (s ++ x ∷ []) ≡ false
first_push [] x first ne = not_none x.told ne
first_push (y ∷ s) x first ne = first

-- from start on, up to before end, f answers told
module _ (f : ℕ → Option Told) (s : List Stretch) (start end : ℕ) (told : Option Told) (made : AreMade f s start)
    (less : start < end) (is : (a : ℕ) → start ≤ a → a < end → f a ≡ told) where
  upto : (e : ℕ) → start ≤ e → All (λ (x : Stretch). x.start ≤ e) s
  upto e le =
      All-weaker (λ (x : Stretch). x.start < start) (λ (x : Stretch). x.start ≤ e) (λ x h. omega (arith, h, le)) s
      made.below

  -- the last stretch tells that
  pub goes_on : last_told s ≡ told → AreMade f s end
  goes_on same = record {
    right = λ a lt. elim (cases_lt a start) [
      | inl under ↦ made.right a under
      | inr from ↦ past_last s a made.apart (upto a from) ∙ same ∙ sym (is a from lt)
    ];
    apart = made.apart;
    first = made.first;
    below = All-weaker (λ (x : Stretch). x.start < start) (λ (x : Stretch). x.start < end) (λ x h. omega (arith, h, less))
        s made.below;
  }

  abbrev new : Stretch
  new = record { start = start; told = told }

  pub one_more : last_told s ≢ told → AreMade f (s ++ new ∷ []) end
  one_more ne = record {
    right = λ a lt. stretch_more s new a ∙ elim (cases_lt a start) [
      | inl under ↦ ap (λ (b : Bool). if b then told else told_at s a) (lt-leb start a under) ∙ made.right a under
      | inr from ↦ ap (λ (b : Bool). if b then told else told_at s a) (le-leb start a from) ∙ sym (is a from lt)
    ];
    apart = apart_push s new made.apart made.below ne;
    first = first_push s new made.first ne;
    below = All-push (λ (x : Stretch). x.start < end) s new
        (All-weaker (λ (x : Stretch). x.start < start) (λ (x : Stretch). x.start < end)
        (λ x h. omega (arith, h, less)) s made.below) less;
  }

-- nothing is told below start
pub none_made : (f : ℕ → Option Told) (start : ℕ) → ((a : ℕ) → a < start → f a ≡ None) → AreMade f [] start
none_made f start none = record {
  right = λ a lt. sym (none a lt);
  apart = tt;
  first = refl;
  below = All-nil (λ (s : Stretch). s.start < start);
}

pub all_made : (f : ℕ → Option Told) (s : List Stretch) → AreMade f s (2 ^ 64) → AreStretches f s
all_made f s made = record { right = made.right; apart = made.apart; first = made.first }

pub made_same : (f : ℕ → Option Told) (s : List Stretch) (m n : ℕ) → AreMade f s m → m ≡ n → AreMade f s n
made_same f s m n made e = subst (AreMade f s) e made

pub last_told-push : (s : List Stretch) (x : Stretch) → last_told (s ++ x ∷ []) ≡ x.told
last_told-push [] x = refl
last_told-push (y ∷ []) x = refl
last_told-push (y ∷ z ∷ s) x = last_told-push (z ∷ s) x

pub last_gap : LastIsGap
last_gap f s last are at none =
    let a : ℕ = 0xffffffffffffffff in
    sym (last_told-push s last)
    ∙ sym (past_last (s ++ last ∷ []) a are.apart (All-weaker (λ (x : Stretch). x.start < 2 ^ 64)
    (λ (x : Stretch). x.start ≤ a) (λ x h. omega (arith, h)) (s ++ last ∷ []) at))
    ∙ are.right a (omega arith) ∙ none
