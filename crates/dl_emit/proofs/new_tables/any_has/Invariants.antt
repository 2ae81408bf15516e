-- The answer is among the entries that are left.
use Rattle.std.proofs.Common.{◌≡◌, drop}
use Rattle.std.specs.List.{list_any}
use Rattle.dl_emit.specs.Conversion.{entries_in, has_number}
use Rattle.dl_emit.proofs.new_tables.any_has.Given as goal

abbrev pub invariant-loop-i : goal.invariant-loop-i
invariant-loop-i l =
    list_any (has_number l.content) (drop l.i (entries_in l.table)) ≡ list_any (has_number l.content) (entries_in l.table)
