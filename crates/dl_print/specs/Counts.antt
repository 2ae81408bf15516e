-- Counts of units and rows, 2^64 - 1 where there are more.
use Rattle.std.specs.Prelude.{ℕ, ◌+◌, ◌-◌, ◌^◌, Bool, not, min, cond}
use Rattle.dl_print.specs.declared.summary.Summary.{Summary}

abbrev pub add : ℕ → ℕ → ℕ
add m n = min (m + n) (2 ^ 64 - 1)

-- the counts, and a unit more
abbrev pub with_unit : (is_foreign : Bool) (sequences rows : ℕ) → Summary → Summary
with_unit is_foreign sequences rows s = record {
  units = add s.units (cond (not is_foreign) 1 0);
  skipped = add s.skipped (cond is_foreign 1 0);
  sequences = add s.sequences sequences;
  rows = add s.rows rows;
}
