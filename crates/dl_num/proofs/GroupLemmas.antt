-- The groups of a number, and one byte more at its end.
use Rattle.std.specs.Option.{option_eq}
use Rattle.std.proofs.Common.{◌≡◌, ℕ, ◌+◌, ◌*◌, ◌^◌, ◌%◌, ◌-◌, ◌<◌, ◌≤◌, List, [], ◌∷◌, ◌++◌, length, refl, sym, ap}
use Rattle.std.proofs.Common.{◌∙◌, arith, ℤ, pos, negsuc, Bool, IsTrue, ◌↔◌, eqb, true, false, leb, Option, Some, None}
use Rattle.std.proofs.Common.{Result, Ok, Err, inl, inr}
use Rattle.std.proofs.Math.Nat.{pow-suc}
use Rattle.std.proofs.lemmas.Int.{ints}
use Rattle.std.proofs.lemmas.Bool.{cases_lt, lt-ltb, le-ltb, lt-leb, le-leb, ne_eqb}
use Rattle.dl_num.specs.Leb.{groups, AllContinue, IsLeb, IsUleb, signed_groups}
use Rattle.dl_num.specs.LebReader.{turned_groups, fitting, signed_of, UlebTook, SlebTook, SlebAnswer}
use Rattle.dl_num.specs.declared.leb.Uleb.{Uleb}
use Rattle.dl_num.specs.declared.leb.Sleb.{Sleb}
use Rattle.dl_num.specs.declared.leb.LebRange.{LebRange}

pub pow-length : (w : List ℕ) (b : ℕ) → 128 ^ length (w ++ b ∷ []) ≡ 128 * 128 ^ length w
pow-length [] b = refl
pow-length (x ∷ w) b = grind (arith, pow-length w b)

carry : (x g d k : ℕ) → x + 128 * (g + d * k) ≡ x + 128 * g + d * (k * 128)
carry x g d k = omega arith

pub groups-push : (w : List ℕ) (b : ℕ) → groups (w ++ b ∷ []) ≡ groups w + b % 128 * 128 ^ length w
groups-push [] b = omega arith
groups-push (x ∷ w) b = rw (groups-push w b, pow-suc) (carry (x % 128) (groups w) (b % 128) (128 ^ length w))

pub turned-push : (w : List ℕ) (b : ℕ)
    → turned_groups (w ++ b ∷ []) ≡ turned_groups w + (127 - b % 128) * 128 ^ length w
turned-push [] b = omega arith
turned-push (x ∷ w) b =
    rw (turned-push w b, pow-suc) (carry (127 - x % 128) (turned_groups w) (127 - b % 128) (128 ^ length w))

pub AllContinue-push : (w : List ℕ) (b : ℕ) → AllContinue w → 128 ≤ b → AllContinue (w ++ b ∷ [])
AllContinue-push [] b h le = (le, tt)
AllContinue-push (x ∷ w) b h le = (h.0, AllContinue-push w b h.1 le)

-- the groups and those of the complement are one less than a power
pub groups-turned : (w : List ℕ) → groups w + turned_groups w + 1 ≡ 128 ^ length w
groups-turned [] = refl
groups-turned (b ∷ w) = grind (arith, groups-turned w)

pub groups_lt : (w : List ℕ) → groups w < 128 ^ length w
groups_lt w = omega (arith, groups-turned w)

-- ---- Uleb

pub uleb_more : {u : Uleb} (w : List ℕ) (b : ℕ) → UlebTook u w → 128 ≤ b → (number weight : Option ℕ)
    → number ≡ fitting (groups w + b % 128 * 128 ^ length w) → weight ≡ fitting (128 * 128 ^ length w)
    → UlebTook (record { number = number; weight = weight }) (w ++ b ∷ [])
uleb_more w b took le number weight n k = record {
  continue = AllContinue-push w b took.continue le;
  number = rw groups-push n;
  weight = rw pow-length k;
}

fitting_some : (n x : ℕ) → Some x ≡ fitting n → (x ≡ n) × (n < 2 ^ 64)
fitting_some n x e = elim (cases_lt n (2 ^ 64)) [
  | inl lt ↦ let t =
      lt-ltb n (2 ^ 64) lt in let f : fitting n ≡ Some n = rw t refl in let s : Some x ≡ Some n = e ∙ f in (cc, lt)
  | inr le ↦ let t =
      le-ltb n (2 ^ 64) le in let f : fitting n ≡ None = rw t refl in let s : Some x ≡ None = e ∙ f in absurd cc
]

fitting_none : (n : ℕ) → None ≡ fitting n → 2 ^ 64 ≤ n
fitting_none n e = elim (cases_lt n (2 ^ 64)) [
  | inl lt ↦ let t =
      lt-ltb n (2 ^ 64) lt in let f : fitting n ≡ Some n = rw t refl in let s : None ≡ Some n = e ∙ f in absurd cc
  | inr le ↦ le
]

abbrev leb_of : (w : List ℕ) (b : ℕ) → AllContinue w → b < 128 → IsLeb (w ++ b ∷ []) w b
leb_of w b h lt = record { bytes = refl; continue = h; ends = lt }

pub uleb_some : {u : Uleb} (w : List ℕ) (b : ℕ) → UlebTook u w → b < 128 → (x : ℕ)
    → Some x ≡ fitting (groups w + b % 128 * 128 ^ length w) → IsUleb (w ++ b ∷ []) x
uleb_some w b took lt x e = (w, b, leb_of w b took.continue lt, (fitting_some _ x e).0 ∙ sym (groups-push w b))

pub uleb_none : {u : Uleb} (w : List ℕ) (b : ℕ) → UlebTook u w → b < 128
    → None ≡ fitting (groups w + b % 128 * 128 ^ length w) → (n : ℕ) × IsUleb (w ++ b ∷ []) n × (2 ^ 64 ≤ n)
uleb_none w b took lt e =
    (groups (w ++ b ∷ []), (w, b, leb_of w b took.continue lt, refl), rw groups-push (fitting_none _ e))

-- ---- Sleb

pub sleb_more : {s : Sleb} (w : List ℕ) (b : ℕ) → SlebTook s w → 128 ≤ b → (number turned weight : Option ℕ)
    → number ≡ fitting (groups w + b % 128 * 128 ^ length w)
    → turned ≡ fitting (turned_groups w + (127 - b % 128) * 128 ^ length w) → weight ≡ fitting (128 * 128 ^ length w)
    → SlebTook (record { number = number; turned = turned; weight = weight }) (w ++ b ∷ [])
sleb_more w b took le number turned weight n t k = record {
  continue = AllContinue-push w b took.continue le;
  number = rw groups-push n;
  turned = rw turned-push t;
  weight = rw pow-length k;
}

pub is_signed : (w : List ℕ) (last : ℕ) → 64 ≤ last → signed_groups w last ≡ negsuc (turned_groups w)
is_signed w last le = let t = le-ltb last 64 le in let p = groups-turned w in rw t (omega (arith, ints))

pub is_unsigned : (w : List ℕ) (last : ℕ) → last < 64 → signed_groups w last ≡ pos (groups w)
is_unsigned w last lt = let t = lt-ltb last 64 lt in rw t refl

below : (w : List ℕ) (b n t : ℕ) → AllContinue w → b < 64 → n ≡ groups (w ++ b ∷ []) → (r : Result ℤ LebRange)
    → r ≡ signed_of false n t → (s : Sleb) → SlebTook s [] → SlebAnswer (w ++ b ∷ []) (Some r) s
below w b n t h lt e (Ok i) r s new = elim (cases_lt n (2 ^ 63)) [
  | inl fits ↦ let f =
      lt-ltb n (2 ^ 63) fits in let q : signed_of false n t ≡ Ok (pos n) =
      rw f refl in let i-is : i ≡ pos n =
      (let j = r ∙ q in cc) in
      ((w, b, leb_of w b h (omega arith), i-is ∙ ap pos e ∙ sym (is_unsigned (w ++ b ∷ []) b lt)), new)
  | inr le ↦ let f =
      le-ltb n (2 ^ 63) le in let q : signed_of false n t ≡ Err (record {}) = rw f refl in let j = r ∙ q in absurd cc
]
below w b n t h lt e (Err x) r s new = elim (cases_lt n (2 ^ 63)) [
  | inl fits ↦ let f =
      lt-ltb n (2 ^ 63) fits in let q : signed_of false n t ≡ Ok (pos n) = rw f refl in let j = r ∙ q in absurd cc
  | inr le ↦ (
    (
      pos n,
      (w, b, leb_of w b h (omega arith), ap pos e ∙ sym (is_unsigned (w ++ b ∷ []) b lt)),
      λ fits. omega arith,
    ),
    new,
  )
]

above : (w : List ℕ) (b n t : ℕ) → AllContinue w → 64 ≤ b → b < 128 → t ≡ turned_groups (w ++ b ∷ [])
    → (r : Result ℤ LebRange) → r ≡ signed_of true n t → (s : Sleb) → SlebTook s []
    → SlebAnswer (w ++ b ∷ []) (Some r) s
above w b n t h ge lt e (Ok i) r s new = elim (cases_lt t (2 ^ 63)) [
  | inl fits ↦ let f =
      lt-ltb t (2 ^ 63) fits in let q : signed_of true n t ≡ Ok (negsuc t) =
      rw f refl in let i-is : i ≡ negsuc t =
      (let j = r ∙ q in cc) in ((w, b, leb_of w b h lt, i-is ∙ ap negsuc e ∙ sym (is_signed (w ++ b ∷ []) b ge)), new)
  | inr le ↦ let f =
      le-ltb t (2 ^ 63) le in let q : signed_of true n t ≡ Err (record {}) = rw f refl in let j = r ∙ q in absurd cc
]
above w b n t h ge lt e (Err x) r s new = elim (cases_lt t (2 ^ 63)) [
  | inl fits ↦ let f =
      lt-ltb t (2 ^ 63) fits in let q : signed_of true n t ≡ Ok (negsuc t) = rw f refl in let j = r ∙ q in absurd cc
  | inr le ↦ (
    (
      negsuc t,
      (w, b, leb_of w b h lt, ap negsuc e ∙ sym (is_signed (w ++ b ∷ []) b ge)),
      λ fits. omega arith,
    ),
    new,
  )
]

pub sleb_ends : {s : Sleb} (w : List ℕ) (b : ℕ) → SlebTook s w → b < 128 → (r : Result ℤ LebRange) (new : Sleb)
    → r ≡ signed_of (leb 64 b) (groups w + b % 128 * 128 ^ length w)
    (turned_groups w + (127 - b % 128) * 128 ^ length w) → SlebTook new [] → SlebAnswer (w ++ b ∷ []) (Some r) new
sleb_ends w b took lt r new e fresh = elim (cases_lt b 64) [
  | inl small ↦ let t =
      lt-leb 64 b small in
      below w b _ (turned_groups w + (127 - b % 128) * 128 ^ length w) took.continue small (sym (groups-push w b)) r
      (rw t at e) new fresh
  | inr big ↦ let t =
      le-leb 64 b big in
      above w b (groups w + b % 128 * 128 ^ length w) _ took.continue big lt (sym (turned-push w b)) r
      (rw t at e) new fresh
]

-- a weight of 1 is that of no byte
pub weight_new : (w : List ℕ) (o : Option ℕ) (r : Bool) → o ≡ fitting (128 ^ length w) → r ≡ option_eq eqb o (Some 1)
    → IsTrue r ↔ (w ≡ [])
weight_new [] o r is same =
    let e : r ≡ true = same ∙ ap (λ (p : Option ℕ). option_eq eqb p (Some 1)) is in
    (λ t. refl, λ none. e)
weight_new (x ∷ w) o r is same = (λ t. absurd (false_true (sym not_one ∙ t)), λ none. absurd cc) where
  false_true : ◌≡◌ {A = Bool} false true → ⊥
  false_true e = cc

  n : ℕ
  n = 128 ^ length (x ∷ w)

  large : 128 ≤ n
  large = omega (arith, groups_lt w, pow-suc 128 (length w))

  not_one : r ≡ false
  not_one = same ∙ ap (λ (p : Option ℕ). option_eq eqb p (Some 1)) is ∙ elim (cases_lt n (2 ^ 64)) [
    | inl lt ↦ rw (lt-ltb n (2 ^ 64) lt) (ne_eqb n 1 (λ one. omega (arith, large, one)))
    | inr le ↦ rw (le-ltb n (2 ^ 64) le) refl
  ]
