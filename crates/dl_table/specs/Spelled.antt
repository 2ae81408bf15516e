-- The parts of a table as the writer has them. No promise rests on this file.
use Rattle.std.specs.Prelude.{ℕ, ◌+◌, ◌/◌, List, ◌∷◌, ◌++◌, length}
use Rattle.std.specs.List.{flat_map}
use Rattle.dl_num.specs.declared.fixed.Order.{Order}
use Rattle.dl_table.specs.declared.form.Format.{Format}
use Rattle.dl_table.specs.declared.table.Pair.{Pair}
use Rattle.dl_table.specs.declared.table.held.StoredValue.{StoredValue}
use Rattle.dl_table.specs.Held.{table_of}
use Rattle.dl_table.specs.Written.{entry_bytes, pair_bytes}
use Rattle.dl_num.specs.Shortest.{shortest_uleb}
use Rattle.dl_table.specs.declared.form.Form.{Form}
use Rattle.dl_table.specs.declared.form.Form.TheVariants as form

-- the size of a block with its length
abbrev pub block_size : Form → ℕ → ℕ
block_size form.Block1 len = 1 + len
block_size form.Block2 len = 2 + len
block_size form.Block4 len = 4 + len
block_size form.Block len = length (shortest_uleb len) + len
block_size f len = 0

abbrev pub format_parts : List Pair → List ℕ
format_parts pairs = length pairs ∷ flat_map pair_bytes pairs

abbrev pub entry_parts : Order → Format → List Pair → List StoredValue → List ℕ → List ℕ
entry_parts order format pairs values pool =
    shortest_uleb (length values / length pairs) ++ flat_map (entry_bytes order format pairs)
    (table_of format pairs values pool).entries

abbrev pub table_parts : Order → Format → List Pair → List StoredValue → List ℕ → List ℕ
table_parts order format pairs values pool = format_parts pairs ++ entry_parts order format pairs values pool
