-- Bytes offered in turns, and what came of each turn.
use Rattle.std.specs.Prelude.{◌≡◌, ℕ, Bool, true, false, List, [], ◌∷◌, ◌++◌, min, take, drop, sum_by}

-- what came of a piece: how many of its bytes were used, and what was answered
pub record Answer (A : Type 0) : Type 0 where
  pub used : ℕ
  pub gave : A

-- how many bytes were used in all
abbrev pub used_in : {A : Type 0} → List (Answer A) → ℕ
used_in answers = sum_by (λ a. a.used) answers

-- what was answered last, or first where nothing was
abbrev pub last_given : {A : Type 0} → A → List (Answer A) → A
last_given first [] = first
last_given first (a ∷ answers) = last_given a.gave answers

-- A trace: the answers to turns over some bytes, after b. May says what a piece may be answered after bytes, goes_on
-- which answers another turn follows.
abbrev pub IsTrace : {A : Type 0} → (May : List ℕ → List ℕ → Answer A → Type 0) → (goes_on : A → Bool)
    → (b bytes turns : List ℕ) → List (Answer A) → Type 0
IsTrace May goes_on b bytes [] answers = answers ≡ []
IsTrace May goes_on b bytes (n ∷ turns) [] = ⊥
-- a turn offers n bytes, or all that are left; then nothing more is offered, or what wasn't used is, in the other turns
IsTrace May goes_on b bytes (n ∷ turns) (a ∷ answers) =
    May b (take n bytes) a
    × (goes_on a.gave ≡ false → answers ≡ [])
    × (goes_on a.gave ≡ true → IsTrace May goes_on (b ++ take a.used bytes) (drop a.used bytes) turns answers)

-- how many of the turns offer anything
abbrev pub some_turns : List ℕ → ℕ
some_turns turns = sum_by (λ n. min n 1) turns
