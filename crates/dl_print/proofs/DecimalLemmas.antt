-- Decimal digits, four at a time.
use Rattle.std.proofs.Common.{◌≡◌, ℕ, ◌+◌, ◌/◌, ◌%◌, ◌^◌, ◌<◌, ◌≤◌, true, List, ◌++◌, length, decimal, nat_le, ap, ◌∙◌}
use Rattle.std.proofs.Common.{arith, inl, inr, append_assoc, length-append}
use Rattle.std.proofs.lemmas.Fmt.{decimal_digit, decimal_step, length-decimal-le}
use Rattle.std.proofs.lemmas.Bool.{le-leb, lt-leb, cases_lt}
use Rattle.dl_print.specs.Digits.{digit_if, four_digits}

-- a number of five digits or more is the digits before the last four, and those
pub decimal_long : (n : ℕ) → 10000 ≤ n → n < 2 ^ 64 → decimal n ≡ decimal (n / 10000) ++ four_digits (n % 10000)
decimal_long n big fits =
    let front : n / 10 / 10 / 10 / 10 ≡ n / 10000 = omega arith in
    let thousands : n / 10 / 10 / 10 % 10 ≡ n % 10000 / 1000 = omega arith in
    let hundreds : n / 10 / 10 % 10 ≡ n % 10000 / 100 % 10 = omega arith in
    let tens : n / 10 % 10 ≡ n % 10000 / 10 % 10 = omega arith in
    let ones : n % 10 ≡ n % 10000 % 10 = omega arith in
    rw (
      decimal_step n (omega arith) fits,
      decimal_step (n / 10) (omega arith) (omega arith),
      decimal_step (n / 10 / 10) (omega arith) (omega arith),
      decimal_step (n / 10 / 10 / 10) (omega arith) (omega arith),
      front,
      thousands,
      hundreds,
      tens,
      ones,
    )
    (simp append_assoc)

-- the digits that a number of four digits or fewer has
abbrev pub short_digits : ℕ → List ℕ
short_digits n =
    digit_if (nat_le 1000 n) (n / 1000) ++ digit_if (nat_le 100 n) (n / 100 % 10)
    ++ digit_if (nat_le 10 n) (n / 10 % 10) ++ digit_if true (n % 10)

one : (n : ℕ) → n < 10 → decimal n ≡ short_digits n
one n h =
    let ones : n % 10 ≡ n = omega arith in
    rw (lt-leb 1000 n (omega arith), lt-leb 100 n (omega arith), lt-leb 10 n h, decimal_digit n h, ones)

two : (n : ℕ) → 10 ≤ n → n < 100 → decimal n ≡ short_digits n
two n low h =
    let tens : n / 10 % 10 ≡ n / 10 = omega arith in
    rw (
      lt-leb 1000 n (omega arith),
      lt-leb 100 n h,
      le-leb 10 n low,
      decimal_step n low (omega arith),
      decimal_digit (n / 10) (omega arith),
      tens,
    )

three : (n : ℕ) → 100 ≤ n → n < 1000 → decimal n ≡ short_digits n
three n low h =
    let hundreds : n / 100 % 10 ≡ n / 10 / 10 = omega arith in
    rw (
      lt-leb 1000 n h,
      le-leb 100 n low,
      le-leb 10 n (omega arith),
      decimal_step n (omega arith) (omega arith),
      decimal_step (n / 10) (omega arith) (omega arith),
      decimal_digit (n / 10 / 10) (omega arith),
      hundreds,
    )

four : (n : ℕ) → 1000 ≤ n → n < 10000 → decimal n ≡ short_digits n
four n low h =
    let thousands : n / 1000 ≡ n / 10 / 10 / 10 = omega arith in
    let hundreds : n / 100 ≡ n / 10 / 10 = omega arith in
    rw (
      le-leb 1000 n low,
      le-leb 100 n (omega arith),
      le-leb 10 n (omega arith),
      decimal_step n (omega arith) (omega arith),
      decimal_step (n / 10) (omega arith) (omega arith),
      decimal_step (n / 10 / 10) (omega arith) (omega arith),
      decimal_digit (n / 10 / 10 / 10) (omega arith),
      thousands,
      hundreds,
    )

pub decimal_short : (n : ℕ) → n < 10000 → decimal n ≡ short_digits n
decimal_short n h = elim (cases_lt n 10) [
  | inl few ↦ one n few
  | inr tens ↦ elim (cases_lt n 100) [
    | inl few ↦ two n tens few
    | inr hundreds ↦ elim (cases_lt n 1000) [ inl few ↦ three n hundreds few | inr thousands ↦ four n thousands h ]
  ]
]

pub length-decimal_long : (n : ℕ) → 10000 ≤ n → n < 2 ^ 64 → length (decimal n) ≡ length (decimal (n / 10000)) + 4
length-decimal_long n big fits = ap length (decimal_long n big fits) ∙ length-append _ _

pub length-decimal_short : (n : ℕ) → n < 10000 → length (decimal n)
    ≡ length (digit_if (nat_le 1000 n) (n / 1000)) + length (digit_if (nat_le 100 n) (n / 100 % 10))
    + length (digit_if (nat_le 10 n) (n / 10 % 10)) + 1
length-decimal_short n h = ap length (decimal_short n h) ∙ omega (arith, length-append {A = ℕ})

pub length-decimal_digit : (n : ℕ) → n < 10 → length (decimal n) ≡ 1
length-decimal_digit n h = ap length (decimal_digit n h)

-- how long a number of one digit, of four digits or fewer and a longer one is
pub ruleset decimal_lengths = (length-decimal_digit, length-decimal_short, length-decimal_long)

-- a number of 64 bits has 20 digits at most
pub decimal_room : (n : ℕ) → n < 2 ^ 64 → length (decimal n) ≤ 20
decimal_room n fits = length-decimal-le 20 n (omega arith) (omega arith) fits
