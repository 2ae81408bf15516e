-- The values of the symbols so far.
use Rattle.std.proofs.Common.{◌≡◌, ◌++◌}
use Rattle.dl_reloc.specs.Entries.{values_upto}
use Rattle.dl_reloc.proofs.symbol.push_symbol_values.Given as goal

abbrev pub invariant-loop-index : goal.invariant-loop-index
invariant-loop-index g l =
    l.values.items ≡ l.initial.values.items ++ values_upto l.target.class l.target.order l.table l.index
