-- A table's fields, seen as its pairs and entries. No promise rests on this file.
use Rattle.std.specs.Prelude.{◌≤◌, length}
use Rattle.dl_table.specs.declared.table.Table.TheInside.{Inside}
use Rattle.dl_table.specs.TableData.{TableData}
use Rattle.dl_table.specs.Sound.{IsSoundTable}
use Rattle.dl_table.specs.Held.{values_end, IsWhole, table_of}

abbrev pub table_held : Inside → TableData
table_held t = table_of t.format t.pairs.items t.values.items t.pool.items

-- what is true of a table's fields
pub record IsHeld (t : Inside) : Type 0 where
  pub within : values_end t.values.items ≤ length t.pool.items
  pub whole : IsWhole (length t.values.items) (length t.pairs.items)
  pub few : length t.pairs.items ≤ 255
  pub sound : IsSoundTable (table_held t)
