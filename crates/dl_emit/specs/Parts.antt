-- The values of a table that is made, and what they come to. No promise rests on this file.
use Rattle.std.specs.Prelude.{ℕ, ◌+◌, ◌≤◌, List, [], ◌∷◌, length, map}
use Rattle.std.specs.List.{sum_by}
use Rattle.dl_table.specs.Held.{value_held, values_end}
use Rattle.dl_table.specs.TableCells.{value_cells}
use Rattle.dl_table.specs.TableData.{TableData}
use Rattle.dl_table.specs.Value.{Value}
use Rattle.dl_emit.specs.declared.new_tables.Parts.{Parts}
use Rattle.dl_emit.specs.Conversion.{directory_entry, entries_in, path_entry, path_pair}

-- the values that are held
abbrev pub held_in : Parts → List Value
held_in p = map (value_held p.pool.items) p.values.items

abbrev pub cells_of : List Value → ℕ
cells_of values = sum_by value_cells values

-- the texts stand in the pool, which has no other bytes
pub record IsExact (p : Parts) : Type 0 where
  pub within : values_end p.values.items ≤ length p.pool.items
  pub few : length p.values.items + length p.pool.items ≤ cells_of (held_in p)

-- the table of directories whose directory 0 has this path
abbrev pub directories_from : List ℕ → TableData → TableData
directories_from first old = record {
  format = old.format;
  pairs = path_pair ∷ [];
  entries = path_entry first ∷ map directory_entry (entries_in old);
}
