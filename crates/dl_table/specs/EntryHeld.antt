-- What an entry that is lent stands for: its values with their content codes.
use Rattle.std.specs.Prelude.{ℕ, List, map}
use Rattle.dl_table.specs.declared.table.entry.Entry.{Entry}
use Rattle.dl_table.specs.Value.{Value}
use Rattle.dl_table.specs.Held.{value_held}
use Rattle.dl_table.specs.EntryData.{with_content}

abbrev pub entry_items : Entry → List (ℕ × Value)
entry_items e = with_content e.pairs.now (map (value_held e.pool.now) e.held.now)
