-- A step over bytes: from a state, a byte is wanted and leads to a state, or it ends with a result.
use Rattle.std.specs.Prelude.{◌≡◌, ℕ, List, [], ◌∷◌, ◌++◌}

pub data Verdict (S R : Type 0) : Type 0 where
  Wants : S → Verdict S R
  Ends : R → Verdict S R

-- from p, each byte of x is wanted, and leads to q
abbrev pub Goes : {S R : Type 0} → (S → ℕ → Verdict S R) → S → List ℕ → S → Type 0
Goes step p [] q = q ≡ p
Goes {S = S} {R = R} step p (c ∷ x) q = (m : S) × (step p c ≡ Wants m) × Goes step m x q

-- from p, each byte of w but the last is wanted, and the last gives this result
pub record EndsWith {S R : Type 0} (step : S → ℕ → Verdict S R) (p : S) (w : List ℕ) (r : R) : Type 0 where
  pub front : List ℕ
  pub last : ℕ
  pub part : S
  pub bytes : w ≡ front ++ last ∷ []
  pub goes : Goes step p front part
  pub gives : step part last ≡ Ends r
