use Rattle.std.proofs.Common.{◌≡◌}
use Rattle.dl_table.specs.EntryHeld.{entry_items}
use Rattle.dl_table.specs.ValuesLeft.{values_left}
use Rattle.dl_table_rules.specs.Ordering.{entry_cmp}
use Rattle.dl_table_rules.proofs.value_order.compare_entries.Given as goal

abbrev pub invariant-loop-content : goal.invariant-loop-content
invariant-loop-content l =
    entry_cmp (entry_items l.entry) (entry_items l.other) ≡ entry_cmp (values_left l.content-iterator) (values_left l.others)
