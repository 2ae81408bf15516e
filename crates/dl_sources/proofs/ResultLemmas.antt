-- What is said of results.
use Rattle.std.proofs.Common.{◌≤◌, ℕ, Result, Ok, Err, arith}
use Rattle.std.specs.Prelude.{OnOk, OnErr}
use Rattle.dl_memory.specs.Refusals.{IsRefused}

pub on_ok : {A E : Type 0} {P Q : Type 0} (r : Result A E) → OnOk r P → (P → Q) → OnOk r Q
on_ok (Ok a) p f = f p
on_ok (Err e) p f = tt

pub on_err : {A E : Type 0} {P Q : Type 0} (r : Result A E) → OnErr r P → (P → Q) → OnErr r Q
on_err (Ok a) p f = tt
on_err (Err e) p f = f p

-- what holds anyway
pub any_err : {A E : Type 0} {Q : Type 0} (r : Result A E) → Q → OnErr r Q
any_err (Ok a) q = tt
any_err (Err e) q = q

-- no more than other ones
pub at_most : (refuses : ℕ → Type 0) (few many : ℕ) → few ≤ many → IsRefused refuses few → IsRefused refuses many
at_most refuses few many le (n, within, refused) = (n, omega (arith, le, within), refused)
