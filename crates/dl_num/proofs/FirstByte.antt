-- The first byte of a value, as it is searched for.
use Rattle.std.proofs.Common.{◌≡◌, ℕ, Bool, true, false, nat_lt, List, Option, Some, None, length, position, sym, ap, ◌∙◌, ⊎_elim, arith}
use Rattle.std.specs.List.{position_or_len}
use Rattle.std.proofs.lemmas.Bool.{cases_Bool, cond-true, cond-false}
use Rattle.std.proofs.lemmas.Bool.Decides.{nat_tests}
use Rattle.std.proofs.lemmas.List.Sums.{position_or_len_is}
use Rattle.memchr.specs.Find.{IsFirstByte}

is_false : (b : Bool) → ¬ (b ≡ true) → b ≡ false
is_false b other = ⊎_elim (λ yes. absurd (other yes)) (λ no. no) (cases_Bool b)

-- what a search answers is the first place at which the test passes
pub first_byte : (p : ℕ → Bool) (bytes : List ℕ) (r : Option ℕ) → IsFirstByte p bytes r → r ≡ position p bytes
first_byte p bytes None none =
    let end = position_or_len_is p bytes (length bytes) 0 (omega arith)
    (λ k lt. is_false _ (none k (omega arith) lt)) (λ lt. absurd (omega (arith, lt))) in
    let past : nat_lt (position_or_len p bytes) (length bytes) ≡ false = grind (arith, nat_tests, end) in
    sym (cond-false _ _ _ past)
first_byte p bytes (Some n) is =
    let at = position_or_len_is p bytes n 0 (omega (arith, is.0.high))
    (λ k lt. is_false _ (is.0.before k (omega arith) lt)) (λ lt. is.1) in
    let high = is.0.high in
    let within : nat_lt (position_or_len p bytes) (length bytes) ≡ true = grind (arith, nat_tests, at, high) in
    sym (cond-true _ _ _ within ∙ ap Some at)
