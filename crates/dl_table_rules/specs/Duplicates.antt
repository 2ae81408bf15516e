-- Entries of a table with the same values. DWARF 5, section 6.2.4.1.
use Rattle.std.specs.Prelude.{ℕ, Bool, ◌==◌, ◌&&◌, List, map, Option, slice_get}
use Rattle.std.specs.Cmp.Lexicographic.{pointwise}
use Rattle.std.specs.List.{find, range_with_len}
use Rattle.std.specs.Option.{option_eq}
use Rattle.dl_table.specs.EntryData.{with_content}
use Rattle.dl_table.specs.Equal.{same_value}
use Rattle.dl_table.specs.TableData.{TableData}
use Rattle.dl_table.specs.Value.{Value}

-- the entries of a table, each as its values with their content codes
abbrev pub entries_of : TableData → List (List (ℕ × Value))
entries_of t = map (with_content t.pairs) t.entries

abbrev pub same_item : ℕ × Value → ℕ × Value → Bool
same_item i j = (i.0 == j.0) && same_value i.1 j.1

abbrev pub same_entry : List (ℕ × Value) → List (ℕ × Value) → Bool
same_entry a b = pointwise same_item a b

-- the entries at two places are the same
abbrev pub same_at : List (List (ℕ × Value)) → ℕ → ℕ → Bool
same_at entries i j = option_eq same_entry (slice_get entries i) (slice_get entries j)

-- of the places before this one, the first with the same entry
abbrev pub first_same : List (List (ℕ × Value)) → (place : ℕ) → Option ℕ
first_same entries place = find (λ other. same_at entries other place) (range_with_len 0 place)
