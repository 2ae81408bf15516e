-- Four look-ups among the same starts.
use Rattle.std.specs.Prelude.{ℕ}
use Rattle.dl_index.specs.LookUp.{FindsLast}
use Rattle.dl_index.specs.declared.four.Four.{Four}

pub record FindFour (start : ℕ → ℕ) (count : ℕ) (x k : Four ℕ) : Type 0 where
  pub first : FindsLast start count x.first k.first
  pub second : FindsLast start count x.second k.second
  pub third : FindsLast start count x.third k.third
  pub fourth : FindsLast start count x.fourth k.fourth
