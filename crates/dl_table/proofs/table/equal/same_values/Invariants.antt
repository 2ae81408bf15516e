use Rattle.std.proofs.Common.{◌≡◌, take, map}
use Rattle.dl_table.specs.Held.{value_held}
use Rattle.dl_table.proofs.table.equal.same_values.Given as goal

abbrev pub invariant-loop-i : goal.invariant-loop-i
invariant-loop-i l =
    take l.i (map (value_held l.pool) l.values) ≡ take l.i (map (value_held l.other_pool) l.others)
