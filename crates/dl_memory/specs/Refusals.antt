-- Refusals of memory. refuses: for how many items memory is refused.
use Rattle.std.specs.Prelude.{ℕ, ◌≤◌}
use Rattle.std.specs.declared.alloc.AllocError.{AllocError}

-- memory was refused for some list of items
abbrev pub WasRefused : (refuses : ℕ → Type 0) → Type 0
WasRefused refuses = (n : ℕ) × refuses n

-- memory was refused for some list of items, of which there were to be no more than these
abbrev pub IsRefused : (refuses : ℕ → Type 0) (most : ℕ) → Type 0
IsRefused refuses most = (n : ℕ) × (n ≤ most) × refuses n

-- The system refused memory for a list or a map of n items. An error of the standard library shows it: what stands on this
-- definition doesn't see what it is.
pub SystemRefuses : (n : ℕ) → Type 0
SystemRefuses n = AllocError

-- An error of the standard library shows it.
pub library_refused : AllocError → (n : ℕ) → SystemRefuses n
unfolding SystemRefuses
library_refused error n = error
