-- When a read is blamed. follows: what a reader has become by reads, of which the last so many failed. fails: a read of a
-- reader, or of what it becomes, may fail otherwise than by an interruption.
use Rattle.std.specs.Prelude.{◌≡◌, ◌⊎◌, ◌<◌, ℕ, ◌+◌, Result, Ok, Err}
use Rattle.std.specs.IoError.{error_kind}
use Rattle.std.specs.declared.io.Error.{Error}
use Rattle.std.specs.declared.io.ErrorKind.TheVariants.{Interrupted}

-- one read of what `first` has become, after so many that failed
abbrev pub GoesFrom : {R A : Type 0} → (follows : R → ℕ → R → Type 0) → (fails : R → Type 0) → (first : R) → (failed : ℕ)
    → (new : R) → Result A Error → Type 0
GoesFrom follows fails first failed new (Ok n) = follows first 0 new
GoesFrom follows fails first failed new (Err error) =
    follows first (failed + 1) new × ((error_kind error ≡ Interrupted) ⊎ fails first)

-- one read
abbrev pub Goes : {R A : Type 0} → (follows : R → ℕ → R → Type 0) → (fails : R → Type 0) → (old new : R) → Result A Error
    → Type 0
Goes {R} follows fails old new result = (first : R) (failed : ℕ) → follows first failed old
    → GoesFrom follows fails first failed new result

-- what `first` has become by reads
abbrev pub Became : {R : Type 0} → (follows : R → ℕ → R → Type 0) → (first now : R) → Type 0
Became follows first now = (failed : ℕ) × follows first failed now

-- a read may fail, or more than 1000 in a row may
abbrev pub Fails : {R : Type 0} → (follows : R → ℕ → R → Type 0) → (fails : R → Type 0) → (first : R) → Type 0
Fails {R} follows fails first =
    fails first ⊎ ((failed : ℕ) × (now : R) × (1000 < failed) × follows first failed now)

-- what `first` has become by reads, of which the last one failed
abbrev pub Failed : {R : Type 0} → (follows : R → ℕ → R → Type 0) → (first now : R) → Type 0
Failed follows first now = (failed : ℕ) × (0 < failed) × follows first failed now

-- reads, of which the last one is blamed where `Blamed` holds
abbrev pub Blames : {R : Type 0} → (follows : R → ℕ → R → Type 0) → (fails : R → Type 0) → (old new : R)
    → (Blamed : Type 0) → Type 0
Blames {R} follows fails old new Blamed = (first : R) → Became follows first old
    → Became follows first new × (Blamed → Fails follows fails first × Failed follows first new)
