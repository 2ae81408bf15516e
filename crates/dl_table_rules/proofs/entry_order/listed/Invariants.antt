use Rattle.std.proofs.Common.{◌≡◌, ◌-◌, ◌≤◌, length}
use Rattle.dl_table_rules.specs.Duplicates.{entries_of}
use Rattle.dl_table_rules.specs.Ordering.{AreAt}
use Rattle.dl_table_rules.proofs.entry_order.listed.Given as goal

abbrev pub invariant-loop-entry : goal.invariant-loop-entry
invariant-loop-entry g l =
    (l.place ≤ length l.table.entries) × AreAt (entries_of l.table) 0 l.entries.items
    × (length l.entries.items ≡ l.place)

abbrev pub decreases-loop-entry : goal.decreases-loop-entry
decreases-loop-entry g l = length l.table.entries - l.place
