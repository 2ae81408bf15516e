use Rattle.std.proofs.Common.{◌≡◌}
use Rattle.std.specs.BTreeMap.{values}
use Rattle.std.specs.List.{list_any}
use Rattle.dl_sources.specs.Reporting.{has_two}
use Rattle.dl_sources.proofs.printing.sums_of.Given as goal

abbrev pub invariant-loop-totals : goal.invariant-loop-totals
invariant-loop-totals l = list_any has_two (values l.table.paths) ≡ list_any has_two l.totals-iterator
