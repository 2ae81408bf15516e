-- The cells of a table: one for each pair, each value, and each byte of a text or block. DWARF 5, section 6.2.4.1.
use Rattle.std.specs.Prelude.{ℕ, ◌+◌, length}
use Rattle.std.specs.List.{sum_by}
use Rattle.dl_table.specs.Value.{Value, text, block}
use Rattle.dl_table.specs.TableData.{TableData}

abbrev pub value_cells : Value → ℕ
value_cells (text bytes) = 1 + length bytes
value_cells (block bytes) = 1 + length bytes
value_cells other = 1

abbrev pub table_cells : TableData → ℕ
table_cells t = length t.pairs + sum_by (λ entry. sum_by value_cells entry) t.entries
