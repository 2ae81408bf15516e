use Rattle.std.proofs.Common.{◌≡◌}
use Rattle.dl_table.specs.EntryData.{value_of}
use Rattle.dl_table.specs.EntryHeld.{entry_items}
use Rattle.dl_table.specs.ValuesLeft.{values_left}
use Rattle.dl_table.proofs.table.entry.Entry.get.Given as goal

abbrev pub invariant-loop-code : goal.invariant-loop-code
invariant-loop-code l = value_of (entry_items l.self) l.content ≡ value_of (values_left l.code-iterator) l.content
