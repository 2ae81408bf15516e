-- How many rows of live sequences name a file, and how many bytes of code they have. DWARF 5, sections 6.2.2 and 6.2.5.
use Rattle.std.specs.Prelude.{ℕ, ◌+◌, ◌-◌, ◌^◌, min, Bool, not, ◌&&◌, ◌==◌, if◌then◌else◌, List, [], ◌∷◌, count_by}
use Rattle.dl_rows.specs.declared.row.Row.{Row}
use Rattle.dl_sources.specs.declared.counting.Counts.{Counts}

-- 2^64 - 1 stands for every number above it too
abbrev pub at_most_64_bits : ℕ → ℕ
at_most_64_bits n = min n (2 ^ 64 - 1)

-- the row names the file of number n; an end row names none
abbrev pub names : (n : ℕ) → Row → Bool
names n r = not r.end_sequence && (n == r.file)

-- how many of the rows name it
abbrev pub rows_named : (n : ℕ) → List Row → ℕ
rows_named n rows = count_by (names n) rows

-- the sum over them of the distance to the address of the next row, which is of the same sequence, as only an end row is the
-- last of one; 0 where that address isn't above it
abbrev pub bytes_named : (n : ℕ) → List Row → ℕ
bytes_named n [] = 0
bytes_named n (r ∷ []) = 0
bytes_named n (r ∷ s ∷ rows) = (if names n r then s.address - r.address else 0) + bytes_named n (s ∷ rows)

-- of rows of sequences one after the other
abbrev pub counts_of : (n : ℕ) → List Row → Counts
counts_of n rows = record { rows = at_most_64_bits (rows_named n rows); bytes = at_most_64_bits (bytes_named n rows) }

-- no row
abbrev pub none_named : Counts
none_named = record { rows = 0; bytes = 0 }

abbrev pub plus : Counts → Counts → Counts
plus a b = record { rows = at_most_64_bits (a.rows + b.rows); bytes = at_most_64_bits (a.bytes + b.bytes) }
