-- Among which starts the last one is that isn't above a number. No promise rests on this file.
use Rattle.std.specs.Prelude.{ℕ, ◌+◌, ◌<◌, ◌≤◌}
use Rattle.dl_index.specs.LookUp.{Rise}

-- the last start that isn't above x is one of those from low on, `left` of them
pub record Narrowed (start : ℕ → ℕ) (count x low left : ℕ) : Type 0 where
  pub upto : start 0 ≤ x → start low ≤ x
  pub next : Rise start count → low + left < count → x < start (low + left)
