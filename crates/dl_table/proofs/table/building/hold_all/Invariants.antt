use Rattle.std.proofs.Common.{◌≡◌, ◌+◌, ◌≤◌, ◌++◌, length, map, take, drop, vec_len}
use Rattle.std.specs.List.{sum_by}
use Rattle.std.specs.Vec.{vec_capacity}
use Rattle.dl_table.specs.Held.{pooled, value_held, value_lent, values_end}
use Rattle.dl_table.proofs.table.building.hold_all.Given as goal

abbrev pub invariant-loop-value : goal.invariant-loop-value
invariant-loop-value l = record {
  held_room : vec_len l.held + length l.values ≤ vec_capacity l.held + l.value-index;
  pool_room : vec_len l.pool + sum_by pooled (drop l.value-index l.values) ≤ vec_capacity l.pool;
  within : values_end l.held.items ≤ length l.pool.items;
  held_len : vec_len l.held ≡ vec_len l.initial.held + l.value-index;
  values : map (value_held l.pool.items) l.held.items
      ≡ map (value_held l.initial.pool.items) l.initial.held.items ++ map value_lent (take l.value-index l.values);
}
