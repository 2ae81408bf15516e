-- Numbers in LEB128 at the front of bytes, and what they make of the entries of a section of compact relocations.
use Rattle.std.proofs.Common.{◌≡◌, ℕ, ◌+◌, ◌*◌, ◌/◌, ◌%◌, ◌^◌, ◌<◌, ◌≤◌, ℤ, pos, negsuc, Bool, true, false}
use Rattle.std.proofs.Common.{◌&&◌, ◌-◌, nat_lt, length, take, drop, get_or, List, [], ◌∷◌, ◌++◌}
use Rattle.std.proofs.Common.{Option, Some, None, refl, sym, ap}
use Rattle.std.proofs.Common.{subst, ◌∙◌, arith, inl, inr}
use Rattle.std.specs.Prelude.{if◌then◌else◌, option_map, ◌⊎◌}
use Rattle.std.proofs.lemmas.Bool.{cases_lt, lt-ltb, le-ltb, le-leb}
use Rattle.std.proofs.lemmas.Nat.{mul-mod_first, mul-mod_second}
use Rattle.std.proofs.lemmas.List.{take_all}
use Rattle.std.specs.Int.{w64, cast_unsigned}
use Rattle.dl_num.specs.Leb.{groups, signed_groups, AllContinue, IsUleb, IsSleb, IsSigned64}
use Rattle.dl_num.specs.LebFront.{is_leb, leb_front, after_leb}
use Rattle.dl_num.proofs.LebFrontLemmas.{is_leb-continues, leb_front-continues}
use Rattle.dl_num.proofs.LebLaws.{is_leb-of, leb_is_front}
use Rattle.dl_reloc.specs.Compact.{after_difference, first_number, fits_signed, last_byte, signed_number}
use Rattle.dl_reloc.specs.Compact.{unsigned_front}

-- ---- unsigned numbers

-- bytes that end inside a number
pub no_front : (end : ℕ) (b : List ℕ) → AllContinue b → ◌≡◌ {A = Option ℕ} (unsigned_front end b) None
no_front end b all = rw (leb_front-continues b all, is_leb-continues b all) refl

front_is : (b w rest : List ℕ) (n : ℕ) → b ≡ w ++ rest → IsUleb w n → leb_front b ≡ w
front_is b w rest n parts is = ap leb_front parts ∙ (leb_is_front w rest n is).0

-- a number, and what follows it
pub rest_is : (b w rest : List ℕ) (n : ℕ) → b ≡ w ++ rest → IsUleb w n → rest ≡ after_leb b
rest_is b w rest n parts is = sym (ap after_leb parts ∙ (leb_is_front w rest n is).1)

pub front_number : (end : ℕ) (b w rest : List ℕ) (n : ℕ) → b ≡ w ++ rest → IsUleb w n → n < end
    → unsigned_front end b ≡ Some n
front_number end b w rest n parts is below =
    let number : groups w ≡ n = sym is.3 in
    rw (front_is b w rest n parts is, is_leb-of w is.0 is.1 is.2, number, lt-ltb n end below) refl

pub front_too_large : (end : ℕ) (b w rest : List ℕ) (n : ℕ) → b ≡ w ++ rest → IsUleb w n → end ≤ n
    → ◌≡◌ {A = Option ℕ} (unsigned_front end b) None
front_too_large end b w rest n parts is large =
    let number : groups w ≡ n = sym is.3 in
    rw (front_is b w rest n parts is, is_leb-of w is.0 is.1 is.2, number, le-ltb n end large) refl

-- ---- signed numbers

last_byte-push : (w : List ℕ) (b : ℕ) → last_byte (w ++ b ∷ []) ≡ b
last_byte-push [] b = refl
last_byte-push (a ∷ []) b = refl
last_byte-push (a ∷ c ∷ w) b = last_byte-push (c ∷ w) b

signed_number-is : (w : List ℕ) (i : ℤ) → IsSleb w i → signed_number w ≡ i
signed_number-is w i s =
    let b : last_byte w ≡ s.1 = subst (λ (z : List ℕ). last_byte z ≡ s.1) (sym s.2.bytes) (last_byte-push s.0 s.1) in
    ap (λ (z : ℕ). signed_groups w z) b ∙ sym s.3

fits : (i : ℤ) → IsSigned64 i → fits_signed i ≡ true
fits (pos n) h = lt-ltb n (2 ^ 63) h
fits (negsuc n) h = lt-ltb n (2 ^ 63) h

fits_not : (i : ℤ) → (IsSigned64 i → ⊥) → fits_signed i ≡ false
fits_not (pos n) h = elim (cases_lt n (2 ^ 63)) [ inl lt ↦ absurd (h lt) | inr le ↦ le-ltb n (2 ^ 63) le ]
fits_not (negsuc n) h = elim (cases_lt n (2 ^ 63)) [ inl lt ↦ absurd (h lt) | inr le ↦ le-ltb n (2 ^ 63) le ]

-- its bytes spell an unsigned number as well
unsigned : (w : List ℕ) (i : ℤ) → IsSleb w i → IsUleb w (groups w)
unsigned w i s = (s.0, s.1, s.2, refl)

pub signed_rest : (b w rest : List ℕ) (i : ℤ) → b ≡ w ++ rest → IsSleb w i → rest ≡ after_leb b
signed_rest b w rest i parts is = rest_is b w rest (groups w) parts (unsigned w i is)

-- bytes that end inside a difference
pub no_difference : (before : ℕ) (b : List ℕ) → AllContinue b → after_difference true before b ≡ None
no_difference before b all = rw (leb_front-continues b all, is_leb-continues b all) refl

pub difference_is : (before : ℕ) (b w rest : List ℕ) (i : ℤ) → b ≡ w ++ rest → IsSleb w i → IsSigned64 i
    → after_difference true before b
    ≡ Some (record { number = (before + cast_unsigned w64 i) % 2 ^ 64; rest = rest })
difference_is before b w rest i parts is range =
    let follows = signed_rest b w rest i parts is in
    rw (
      follows,
      front_is b w rest (groups w) parts (unsigned w i is),
      is_leb-of w is.0 is.1 is.2,
      signed_number-is w i is,
      fits i range,
    ) refl

pub difference_too_large : (before : ℕ) (b w rest : List ℕ) (i : ℤ) → b ≡ w ++ rest → IsSleb w i
    → (IsSigned64 i → ⊥) → after_difference true before b ≡ None
difference_too_large before b w rest i parts is out =
    rw (
      front_is b w rest (groups w) parts (unsigned w i is),
      is_leb-of w is.0 is.1 is.2,
      signed_number-is w i is,
      fits_not i out,
    ) refl

-- ---- the first number of an entry

leb_after : (a : ℕ) (z : List ℕ) → 128 ≤ a → is_leb (a ∷ z) ≡ is_leb z
leb_after a [] more = le-ltb a 128 more
leb_after a (c ∷ z) more = rw (le-leb 128 a more) refl

below_more : (a n : ℕ) → nat_lt (a % 128 + 128 * n) (2 ^ 71) ≡ nat_lt n (2 ^ 64)
below_more a n = elim (cases_lt n (2 ^ 64)) [
  | inl less ↦ lt-ltb (a % 128 + 128 * n) (2 ^ 71) (omega (arith, less)) ∙ sym (lt-ltb n (2 ^ 64) less)
  | inr more ↦ le-ltb (a % 128 + 128 * n) (2 ^ 71) (omega (arith, more)) ∙ sym (le-ltb n (2 ^ 64) more)
]

mapped : (g : ℕ → ℕ) (t : Bool) (n : ℕ) → (if t then Some (g n) else None) ≡ option_map g (if t then Some n else None)
mapped g true n = refl
mapped g false n = refl

-- one of more bytes
first_more : (a : ℕ) (b : List ℕ) → 128 ≤ a
    → first_number (a ∷ b) ≡ option_map (λ n. a % 128 + 128 * n) (unsigned_front (2 ^ 64) b)
first_more a b more =
    let w = leb_front b in
    rw (le-ltb a 128 more, leb_after a w more, below_more a (groups w))
    (mapped (λ n. a % 128 + 128 * n) (is_leb w && nat_lt (groups w) (2 ^ 64)) (groups w))

first_long : (a : ℕ) (b : List ℕ) (n : ℕ) → 128 ≤ a → unsigned_front (2 ^ 64) b ≡ Some n
    → first_number (a ∷ b) ≡ Some (a % 128 + 128 * n)
first_long a b n more is = first_more a b more ∙ ap (option_map (λ n. a % 128 + 128 * n)) is

first_rest : (a : ℕ) (b : List ℕ) → 128 ≤ a → after_leb (a ∷ b) ≡ after_leb b
first_rest a b more = rw (le-ltb a 128 more) refl

-- its flags, and the rest of it modulo 2^64
long_split : (a n k : ℕ) → (k ≡ 4) ⊎ (k ≡ 8) → (a % k ≡ (a % 128 + 128 * n) % k)
    × ((a % 128 / k + (n * (128 / k)) % 2 ^ 64) % 2 ^ 64 ≡ (a % 128 + 128 * n) / k % 2 ^ 64)
long_split a n k (inl is) = rw is (omega arith, omega arith)
long_split a n k (inr is) = rw is (omega arith, omega arith)

-- one of more bytes, as it is read
pub long_told : (b : List ℕ) (k high flags low : ℕ) (rest : List ℕ) → (k ≡ 4) ⊎ (k ≡ 8) → 1 ≤ length b
    → 128 ≤ get_or b 0 0 → let tail = take (length b - 1) (drop 1 b) in
    (unsigned_front (2 ^ 64) tail ≡ Some high) × (rest ≡ after_leb tail)
    → flags ≡ get_or b 0 0 → low ≡ get_or b 0 0 % 128
    → (n : ℕ) × (first_number b ≡ Some n) × (flags % k ≡ n % k)
    × ((low / k + (high * (128 / k)) % 2 ^ 64) % 2 ^ 64 ≡ n / k % 2 ^ 64) × (rest ≡ after_leb b)
long_told [] k high flags low rest cases some more told first lowest = absurd (omega (arith, some))
long_told (a ∷ b) k high flags low rest cases some more told first lowest =
    let all : take (length (a ∷ b) - 1) b ≡ b = take_all (length (a ∷ b) - 1) b (omega arith) in
    let split = long_split a high k cases in (
      a % 128 + 128 * high,
      first_long a b high more (ap (unsigned_front (2 ^ 64)) (sym all) ∙ told.0),
      rw first split.0,
      rw lowest split.1,
      told.1 ∙ (ap after_leb all ∙ sym (first_rest a b more)),
    )

-- ---- the offset

shift_is : (d n s : ℕ) → d ≡ n % 2 ^ 64 → (d * ((1 * 2 ^ s) % 2 ^ 64)) % 2 ^ 64 ≡ (n * 2 ^ s) % 2 ^ 64
shift_is d n s told =
    let power : 1 * 2 ^ s ≡ 2 ^ s = omega arith in
    ap (λ m. (d * (m % 2 ^ 64)) % 2 ^ 64) power
    ∙ (mul-mod_second d (2 ^ s) (2 ^ 64)
    ∙ (ap (λ k. (k * 2 ^ s) % 2 ^ 64) told ∙ mul-mod_first n (2 ^ s) (2 ^ 64)))

-- the sum wraps at 64 bits, or at 32 as well
pub long_offset : (o d n s : ℕ) → d ≡ n % 2 ^ 64
    → (o + (d * ((1 * 2 ^ s) % 2 ^ 64)) % 2 ^ 64) % 2 ^ 64 ≡ (o + n * 2 ^ s) % 2 ^ 64
long_offset o d n s told =
    ap (λ k. (o + k) % 2 ^ 64) (shift_is d n s told) ∙ (let p = n * 2 ^ s in omega arith)

pub short_offset : (o d n s : ℕ) → d ≡ n % 2 ^ 64
    → (o + (d * ((1 * 2 ^ s) % 2 ^ 64)) % 2 ^ 64) % 2 ^ 64 % 2 ^ 32 ≡ (o + n * 2 ^ s) % 2 ^ 32
short_offset o d n s told = ap (λ k. k % 2 ^ 32) (long_offset o d n s told) ∙ (let p = n * 2 ^ s in omega arith)
