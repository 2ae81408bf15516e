-- Refusals of memory that are handed on.
use Rattle.std.proofs.Common.{ℕ, ◌≤◌, Result, Ok, Err, arith}
use Rattle.std.specs.Prelude.{OnErr}
use Rattle.dl_memory.specs.Refusals.{IsRefused}

module _ {A E : Type 0} (r : Result A E) (refuses : ℕ → Type 0) (n most : ℕ) (within : n ≤ most) where
  -- memory for a list of n items was refused
  pub wants_list : refuses n → OnErr r (IsRefused refuses most)
  wants_list refused = by r where
    by : (r : Result A E) → OnErr r (IsRefused refuses most)
    by (Ok x) = tt
    by (Err e) = (n, within, refused)

  -- or for one of no more than n
  pub wants_fewer : IsRefused refuses n → OnErr r (IsRefused refuses most)
  wants_fewer (k, le, refused) = by r where
    by : (r : Result A E) → OnErr r (IsRefused refuses most)
    by (Ok x) = tt
    by (Err e) = (k, omega arith, refused)
