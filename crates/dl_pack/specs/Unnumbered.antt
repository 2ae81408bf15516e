-- Items that have no number yet. No promise rests on this file.
use Rattle.std.specs.Prelude.{ℕ, ◌==◌, if◌then◌else◌, List}
use Rattle.std.specs.List.{sum_by}

-- 1 of 0, which stands for no number
abbrev pub unnumbered : ℕ → ℕ
unnumbered n = if n == 0 then 1 else 0

-- how many items have none
abbrev pub unnumbered_count : List ℕ → ℕ
unnumbered_count numbers = sum_by unnumbered numbers
