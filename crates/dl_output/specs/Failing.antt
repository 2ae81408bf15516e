-- When a write is blamed. failed: the last so many writes of a writer failed. fails: a write of such a writer may fail
-- otherwise than by an interruption, may take nothing of bytes that are there, or more than 1000 in a row may be interrupted.
use Rattle.std.specs.Prelude.{◌≡◌, ◌⊎◌, ◌<◌, ℕ, ◌+◌, List, length, Result, Ok, Err}
use Rattle.std.specs.IoError.{error_kind}
use Rattle.std.specs.declared.io.Error.{Error}
use Rattle.std.specs.declared.io.ErrorKind.TheVariants.{Interrupted}

-- one write of these bytes, after so many that failed
abbrev pub GoesAfter : {W : Type 0} → (failed : W → ℕ → Type 0) → (fails : Type 0) → (times : ℕ) → (new : W) → (bytes : List ℕ)
    → Result ℕ Error → Type 0
GoesAfter failed fails times new bytes (Ok n) = n ≡ 0 → 0 < length bytes → fails
GoesAfter failed fails times new bytes (Err error) =
    failed new (times + 1) × (((error_kind error ≡ Interrupted) × (times < 1000)) ⊎ fails)

-- one write of these bytes
abbrev pub Goes : {W : Type 0} → (failed : W → ℕ → Type 0) → (fails : Type 0) → (old new : W) → (bytes : List ℕ)
    → Result ℕ Error → Type 0
Goes failed fails old new bytes result = (times : ℕ) → (0 < times → failed old times) → GoesAfter failed fails times new bytes result
