-- The files of a unit that no row names. DWARF 5, sections 6.2.2 and 6.2.4.
use Rattle.std.specs.Prelude.{ℕ, Bool, not, ◌==◌, ◌&&◌, nat_le, List, filter, length}
use Rattle.std.specs.List.{list_any, range_with_len}
use Rattle.dl_field.specs.HeaderData.{HeaderData}
use Rattle.dl_head.specs.Numbers.{first_number}

abbrev pub is_among : List ℕ → ℕ → Bool
is_among numbers n = list_any (λ m. m == n) numbers

-- the numbers of the table's entries
abbrev pub file_numbers : HeaderData → List ℕ
file_numbers h = range_with_len (first_number h.params) (length h.files.entries)

-- those that aren't among the files that rows name, but 0 and 1: the one of the two numbers that is the first of its version,
-- or both, stand for the source file of the unit itself
abbrev pub unused_in : HeaderData → (named : List ℕ) → List ℕ
unused_in h named = filter (λ n. nat_le 2 n && not (is_among named n)) (file_numbers h)
