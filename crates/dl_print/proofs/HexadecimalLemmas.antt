-- Hexadecimal digits, one and two at a time.
use Rattle.std.proofs.Common.{◌≡◌, ℕ, zero, suc, ◌+◌, ◌-◌, ◌*◌, ◌/◌, ◌%◌, ◌^◌, ◌<◌, ◌≤◌, Bool, true, false, cond, eqb}
use Rattle.std.proofs.Common.{List, [], ◌∷◌, ◌++◌, length, get_or, eqb→eq, ◌&&◌, T, replicate, refl, sym, ap, ◌∙◌}
use Rattle.std.proofs.Common.{arith, inl, inr, pow-suc, append_assoc, append-nil, length-append}
use Rattle.std.proofs.Math.Nat.{div-div-eq-div-mul, div-le_self}
use Rattle.std.specs.Prelude.{Result, Ok, Err, IsOk, OnOk}
use Rattle.std.specs.Fmt.{digit_glyph, digits_onto, digits}
use Rattle.std.proofs.lemmas.Fmt.{hex_one_digit}
use Rattle.std.proofs.lemmas.Bool.{ne_eqb, cases_lt}
use Rattle.std.proofs.lemmas.List.{replicate-append-replicate}
use Rattle.std.specs.Int.{w64, to_be_bytes}
use Rattle.dl_print.specs.Digits.{last_digit, hexadecimal, hexadecimal_of, hexadecimal_bytes}
use Rattle.dl_print.specs.declared.text.digits.TheConstants.{BYTE_DIGITS}
use Rattle.hex.specs.Hex.{encode_lower, encode_with, lower_digits}
use lib.Ieee.Fits.{and_l, and_r}

-- the last k digits at most, followed by those of acc
abbrev onto : ℕ → ℕ → List ℕ → List ℕ
onto k n acc = digits_onto k 16 false n acc

onto-append : (k n : ℕ) (acc : List ℕ) → onto k n acc ≡ onto k n [] ++ acc
onto-append zero n acc = refl
onto-append (suc k) n acc =
    let d = last_digit n in
    let rest = onto k (n / 16) in
    elim (eqb (n / 16) 0) as (λ ends. cond ends (d ∷ acc) (rest (d ∷ acc)) ≡ cond ends (d ∷ []) (rest (d ∷ []))
    ++ acc) [
      | true ↦ refl
      | false ↦ onto-append k (n / 16) (d ∷ acc) ∙ sym (append_assoc (rest []) (d ∷ []) acc)
          ∙ ap (λ l. l ++ acc) (sym (onto-append k (n / 16) (d ∷ [])))
    ]

-- a number below 16^k needs no more than k digits
onto_more : (k n : ℕ) (acc : List ℕ) → n < 16 ^ suc k → onto (suc k) n acc ≡ onto (suc (suc k)) n acc
onto_more zero n acc h = let ends : n / 16 ≡ 0 = omega arith in rw ends
onto_more (suc k) n acc h =
    let d = last_digit n in
    elim (eqb (n / 16) 0) as (λ ends. cond ends (d ∷ acc) (onto (suc k) (n / 16) (d ∷ acc))
    ≡ cond ends (d ∷ acc) (onto (suc (suc k)) (n / 16) (d ∷ acc))) [
      | true ↦ refl
      | false ↦ onto_more k (n / 16) (d ∷ acc) (omega (arith, pow-suc 16 (suc k)))
    ]

pub hexadecimal_step : (n : ℕ) → 16 ≤ n → n < 2 ^ 64 → hexadecimal n ≡ hexadecimal (n / 16) ++ last_digit n ∷ []
unfolding digits
hexadecimal_step n big fits =
    let d = last_digit n in
    rw (ne_eqb (n / 16) 0 (λ e. omega arith)) (onto_more 62 (n / 16) (d ∷ []) (omega arith)
    ∙ onto-append 64 (n / 16) (d ∷ []))

pub hexadecimal_digit : (n : ℕ) → n < 16 → hexadecimal n ≡ last_digit n ∷ []
hexadecimal_digit n h = let one : n % 16 ≡ n = omega arith in hex_one_digit false n h ∙ rw one

pub length-hexadecimal_step : (n : ℕ) → 16 ≤ n → n < 2 ^ 64 → length (hexadecimal n) ≡ length (hexadecimal (n / 16)) + 1
length-hexadecimal_step n big fits = ap length (hexadecimal_step n big fits) ∙ length-append _ _

pub length-hexadecimal_digit : (n : ℕ) → n < 16 → length (hexadecimal n) ≡ 1
length-hexadecimal_digit n h = ap length (hexadecimal_digit n h)

-- a number has no more than k + 1 digits where it is below 16^(k + 1)
pub length-hexadecimal-le : (k n : ℕ) → n < 2 ^ 64 → n < 16 ^ suc k → length (hexadecimal n) ≤ suc k
length-hexadecimal-le zero n fits h = omega (arith, length-hexadecimal_digit n (omega arith))
length-hexadecimal-le (suc k) n fits h = elim (cases_lt n 16) [
  | inl few ↦ omega (arith, length-hexadecimal_digit n few)
  | inr more ↦
      let rest = length-hexadecimal-le k (n / 16) (omega arith) (omega (arith, pow-suc 16 (suc k))) in
      omega (arith, length-hexadecimal_step n more fits, rest)
]

-- a number of 64 bits has 16 digits at most
pub hexadecimal_room : (n : ℕ) → n < 2 ^ 64 → length (hexadecimal n) ≤ 16
hexadecimal_room n fits = length-hexadecimal-le 15 n fits fits

pub ruleset hexadecimal_lengths = (length-hexadecimal_digit, length-hexadecimal_step)

-- ---- with zeros in front

zeros_more : (k : ℕ) → 0 < k → replicate {A = ℕ} (k - 1) 48 ++ 48 ∷ [] ≡ replicate k 48
zeros_more k h = let e : k - 1 + 1 ≡ k = omega arith in replicate-append-replicate {A = ℕ} (k - 1) 1 48 ∙ rw e

padded_step : (k n : ℕ) → 0 < k → n < 2 ^ 64 → hexadecimal_of (suc k) n ≡ hexadecimal_of k (n / 16) ++ last_digit n ∷ []
padded_step k n some fits = elim (cases_lt n 16) [
  | inl few ↦
      let front : n / 16 ≡ 0 = omega arith in
      let count : suc k - 1 ≡ k = omega arith in
      rw (front, hexadecimal_digit n few, hexadecimal_digit 0 (omega arith), count, zeros_more k some)
  | inr more ↦
      let count : suc k - (length (hexadecimal (n / 16)) + 1) ≡ k - length (hexadecimal (n / 16)) = omega arith in
      rw (length-hexadecimal_step n more fits, hexadecimal_step n more fits, count, append_assoc)
]

-- the two digits of a byte
pub two_digits : (b : ℕ) → b < 256 → hexadecimal_of 2 b ≡ last_digit (b / 16) ∷ last_digit b ∷ []
two_digits b h =
    padded_step 1 b (omega arith) (omega arith) ∙ rw (hexadecimal_digit (b / 16) (omega arith))

padded_pair : (k n : ℕ) → 0 < k → n < 2 ^ 64
    → hexadecimal_of (suc (suc k)) n ≡ hexadecimal_of k (n / 256) ++ hexadecimal_of 2 (n % 256)
padded_pair k n some fits =
    let front : n / 16 / 16 ≡ n / 256 = omega arith in
    let high : n % 256 / 16 % 16 ≡ n / 16 % 16 = omega arith in
    let low : n % 256 % 16 ≡ n % 16 = omega arith in
    rw (
      padded_step (suc k) n (omega arith) fits,
      padded_step k (n / 16) some (omega arith),
      front,
      two_digits (n % 256) (omega arith),
      high,
      low,
    )
    (append_assoc (hexadecimal_of k (n / 256)) _ _)

pair_above : (k n c : ℕ) → 0 < k → 0 < c → n < 2 ^ 64
    → hexadecimal_of (suc (suc k)) (n / c) ≡ hexadecimal_of k (n / (c * 256)) ++ hexadecimal_of 2 (n / c % 256)
pair_above k n c some unit fits =
    rw (← div-div-eq-div-mul n c 256) (padded_pair k (n / c) some (omega (arith, div-le_self n c)))

-- the digits of eight bytes, the highest first
pub sixteen_digits : (n : ℕ) → n < 2 ^ 64 → hexadecimal_of 16 n ≡ hexadecimal_bytes (to_be_bytes w64 n)
sixteen_digits n fits =
    let first = ap (hexadecimal_of 2) (let e : n / 2 ^ 56 ≡ n / 2 ^ 56 % 256 = omega arith in e) in
    padded_pair 14 n (omega arith) fits ∙ rw (
      pair_above 12 n (2 ^ 8) (omega arith) (omega arith) fits,
      pair_above 10 n (2 ^ 16) (omega arith) (omega arith) fits,
      pair_above 8 n (2 ^ 24) (omega arith) (omega arith) fits,
      pair_above 6 n (2 ^ 32) (omega arith) (omega arith) fits,
      pair_above 4 n (2 ^ 40) (omega arith) (omega arith) fits,
      pair_above 2 n (2 ^ 48) (omega arith) (omega arith) fits,
      first,
    ) (simp (append_assoc, append-nil))

-- ---- the table

abbrev are_digits : ℕ → Bool
are_digits zero = true
are_digits (suc b) =
    (eqb (get_or BYTE_DIGITS (2 * b) 0) (last_digit (b / 16)) && eqb (get_or BYTE_DIGITS (2 * b + 1) 0) (last_digit b))
    && are_digits b

digits_below : (n b : ℕ) → T (are_digits n) → b < n → (get_or BYTE_DIGITS (2 * b) 0 ≡ last_digit (b / 16))
    × (get_or BYTE_DIGITS (2 * b + 1) 0 ≡ last_digit b)
digits_below zero b t h = absurd (omega arith)
digits_below (suc n) b t h = elim (cases_lt b n) [
  | inl below ↦ digits_below n b (and_r _ (are_digits n) t) below
  | inr above ↦
      let e : b ≡ n = omega arith in
      let both = and_l _ (are_digits n) t in
      rw e (eqb→eq _ _ (and_l _ _ both), eqb→eq _ _ (and_r _ _ both))
]

pub get_or-BYTE_DIGITS : (b : ℕ) → b < 256 → (get_or BYTE_DIGITS (2 * b) 0 ≡ last_digit (b / 16))
    × (get_or BYTE_DIGITS (2 * b + 1) 0 ≡ last_digit b)
get_or-BYTE_DIGITS b h = digits_below 256 b tt h

-- ---- the digits of the crate hex

pub on_ok : {A E P : Type 0} (result : Result A E) → IsOk result → OnOk result P → P
on_ok (Ok x) is p = p
on_ok (Err e) is p = cc

abbrev are_lower : ℕ → Bool
are_lower zero = true
are_lower (suc d) = eqb (get_or lower_digits d 0) (digit_glyph false d) && are_lower d

lower_below : (n d : ℕ) → T (are_lower n) → d < n → get_or lower_digits d 0 ≡ digit_glyph false d
lower_below zero d t h = absurd (omega arith)
lower_below (suc n) d t h = elim (cases_lt d n) [
  | inl below ↦ lower_below n d (and_r _ (are_lower n) t) below
  | inr above ↦ let e : d ≡ n = omega arith in rw e (eqb→eq _ _ (and_l _ (are_lower n) t))
]

pub encode_lower-digits : (w : List ℕ) → ((i : ℕ) → get_or w i 0 < 256) → encode_lower w ≡ hexadecimal_bytes w
unfolding encode_with
encode_lower-digits [] small = refl
encode_lower-digits (b ∷ w) small =
    let fits : b < 256 = small 0 in
    let same : b / 16 % 16 ≡ b / 16 = omega arith in
    let high = lower_below 16 (b / 16) tt (omega arith) ∙ ap (digit_glyph false) (sym same) in
    let low = lower_below 16 (b % 16) tt (omega arith) in
    rw (two_digits b fits, high, low, encode_lower-digits w (λ i. small (suc i)))
