-- What an iterator over the values of an entry has left.
use Rattle.std.specs.Prelude.{ℕ, List}
use Rattle.dl_table.specs.declared.table.entry.Values.{Values}
use Rattle.dl_table.specs.declared.table.held.ValueRef.{ValueRef}
use Rattle.dl_table.specs.Value.{Value}
use Rattle.dl_table.specs.Held.{value_lent}
use Rattle.dl_table.specs.EntryHeld.{entry_items}

abbrev pub values_left : Values → List (ℕ × Value)
values_left values = entry_items values.left

-- the value that is lent, with its content code
abbrev pub item_lent : (item : ℕ × ValueRef) → ℕ × Value
item_lent item = (item.0, value_lent item.1)
