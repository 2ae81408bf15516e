-- A text that is read byte by byte says the address that it is.
use Rattle.std.proofs.Common.{◌≡◌, ℕ, ◌+◌, ◌*◌, ◌^◌, ◌<◌, ◌≤◌, Bool, true, false, ◌==◌, if◌then◌else◌, List, [], ◌∷◌}
use Rattle.std.proofs.Common.{Option, Some, None, arith, refl, sym, ap, ◌∙◌}
use Rattle.std.specs.Prelude.{◌&&◌, nat_lt, option_and_then}
use Rattle.std.proofs.lemmas.Bool.{eqb-true, le-ltb, lt-ltb, ltb-false, ltb-true}
use Rattle.std.proofs.Math.Nat.{le-mul_of_pos_right}
use Rattle.dl_cmd.specs.Address.{address_by, base_of, below_2_64, digit_of, number_after, number_in}
use Rattle.dl_cmd.specs.AddressText.{address_of, after_digit, digits_or_other, text_after}
use Rattle.dl_cmd.specs.declared.address.AddressText.{AddressText}
use Rattle.dl_cmd.specs.declared.address.AddressText.TheVariants.{Empty, Zero, Prefix, Digits, Other}

-- all these bytes more
abbrev pub all_after : (hex : Bool) → AddressText → List ℕ → AddressText
all_after hex t [] = t
all_after hex t (c ∷ text) = all_after hex (text_after hex t c) text

-- the address that they then say
abbrev said : (hex : Bool) → AddressText → List ℕ → Option ℕ
said hex t text = address_of (all_after hex t text)

pub other_says : (hex : Bool) (text : List ℕ) → said hex Other text ≡ None
other_says hex [] = refl
other_says hex (c ∷ text) = other_says hex text

-- ---- digits

-- the number that the digits are when they follow those of n, if it is below 2^64
abbrev rest_of : (own : Bool) → ℕ → List ℕ → Option ℕ
rest_of own n digits = option_and_then below_2_64 (number_after (base_of own) n digits)

some_base : (own : Bool) → 1 ≤ base_of own
some_base true = omega arith
some_base false = omega arith

-- a number from 2^64 on stays so
rest_of-big : (own : Bool) (n : ℕ) (digits : List ℕ) → 2 ^ 64 ≤ n → rest_of own n digits ≡ None
rest_of-big own n [] big = rw (le-ltb n (2 ^ 64) big)
rest_of-big own n (c ∷ digits) big =
    elim (digit_of (base_of own) c) as (λ o. option_and_then below_2_64
    (option_and_then (λ d. number_after (base_of own) (n * base_of own + d) digits) o) ≡ None) [
      | None ↦ refl
      | Some d ↦ rest_of-big own (n * base_of own + d) digits (omega (arith, le-mul_of_pos_right n (some_base own)))
    ]

-- a digit more is read, or there is none
digit_says : (hex own : Bool) (n c : ℕ) (text : List ℕ)
    → ((m : ℕ) → m < 2 ^ 64 → said hex (Digits own m) text ≡ rest_of own m text)
    → said hex (after_digit own n c) text ≡ rest_of own n (c ∷ text)
digit_says hex own n c text more = by (digit_of (base_of own) c) where
  Goal : Option ℕ → Option ℕ → Type 0
  Goal after digit =
      said hex (digits_or_other own after) text
      ≡ option_and_then below_2_64 (option_and_then (λ d. number_after (base_of own) (n * base_of own + d) text) digit)

  small : (d : ℕ) (b : Bool) → nat_lt (n * base_of own + d) (2 ^ 64) ≡ b
      → Goal (if b then Some (n * base_of own + d) else None) (Some d)
  small d true e = more (n * base_of own + d) (ltb-true (n * base_of own + d) (2 ^ 64) e)
  small d false e =
      other_says hex text
      ∙ sym (rest_of-big own (n * base_of own + d) text (ltb-false (n * base_of own + d) (2 ^ 64) e))

  by : (o : Option ℕ) → Goal (option_and_then (λ d. below_2_64 (n * base_of own + d)) o) o
  by None = other_says hex text
  by (Some d) = small d (nat_lt (n * base_of own + d) (2 ^ 64)) refl

digits_say : (hex own : Bool) (text : List ℕ) (n : ℕ) → n < 2 ^ 64 → said hex (Digits own n) text ≡ rest_of own n text
digits_say hex own [] n fits = sym (ap (λ (b : Bool). if b then Some n else None) (lt-ltb n (2 ^ 64) fits))
digits_say hex own (c ∷ text) n fits = digit_says hex own n c text (digits_say hex own text)

first_says : (hex own : Bool) (c : ℕ) (text : List ℕ) → said hex (after_digit own 0 c) text ≡ number_in (base_of own) (c ∷ text)
first_says hex own c text = digit_says hex own 0 c text (digits_say hex own text)

-- ---- all bytes

prefix_says : (hex : Bool) (text : List ℕ) → said hex Prefix text ≡ number_in 16 text
prefix_says hex [] = refl
prefix_says hex (c ∷ text) = first_says hex true c text

zero : (own : Bool) (text : List ℕ) → rest_of own 0 text ≡ number_in (base_of own) (48 ∷ text)
zero true text = refl
zero false text = refl

-- the address that a text says
abbrev word : (own : Bool) → List ℕ → Option ℕ
word own [] = None
word own (c ∷ []) = number_in (base_of own) (c ∷ [])
word own (c ∷ x ∷ text) =
    if (c == 48) && (x == 120) then number_in 16 text else number_in (base_of own) (c ∷ x ∷ text)

word_is : (hex : Bool) (text : List ℕ) → word hex text ≡ address_by hex text
word_is true [] = refl
word_is true (c ∷ []) = refl
word_is true (c ∷ x ∷ text) = refl
word_is false [] = refl
word_is false (c ∷ []) = refl
word_is false (c ∷ x ∷ text) = refl

zero_says : (hex : Bool) (text : List ℕ) → said hex Zero text ≡ word hex (48 ∷ text)
zero_says hex [] = zero hex []
zero_says hex (x ∷ text) = by (x == 120) where
  by : (b : Bool) → said hex (if b then Prefix else after_digit hex 0 x) text
      ≡ (if b then number_in 16 text else number_in (base_of hex) (48 ∷ x ∷ text))
  by true = prefix_says hex text
  by false = first_says hex hex x text ∙ zero hex (x ∷ text)

word_from : (hex : Bool) (c : ℕ) (text : List ℕ) → (c == 48) ≡ false → word hex (c ∷ text) ≡ number_in (base_of hex) (c ∷ text)
word_from hex c [] e = refl
word_from hex c (x ∷ text) e = rw e

pub text_says : (hex : Bool) (text : List ℕ) → address_of (all_after hex Empty text) ≡ address_by hex text
text_says hex [] = word_is hex []
text_says hex (c ∷ text) = by (c == 48) refl ∙ word_is hex (c ∷ text) where
  by : (b : Bool) → (c == 48) ≡ b → said hex (if b then Zero else after_digit hex 0 c) text ≡ word hex (c ∷ text)
  by true e = zero_says hex text ∙ ap (λ d. word hex (d ∷ text)) (sym (eqb-true c 48 e))
  by false e = first_says hex hex c text ∙ sym (word_from hex c text e)
