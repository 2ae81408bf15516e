use Rattle.std.proofs.Common.{◌≡◌, take}
use Rattle.std.specs.List.{sum_by}
use Rattle.dl_table.specs.Held.{pooled}
use Rattle.dl_table.proofs.table.building.pooled_len.Given as goal

abbrev pub invariant-loop-value : goal.invariant-loop-value
invariant-loop-value l = l.total ≡ sum_by pooled (take l.value-index l.values)
