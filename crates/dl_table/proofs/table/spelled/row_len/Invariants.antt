use Rattle.std.proofs.Common.{◌≡◌, ◌+◌, ◌-◌, ◌^◌, ◌<◌, min, drop, map, length}
use Rattle.dl_num.specs.declared.fixed.Order.TheVariants.{Little}
use Rattle.dl_table.specs.Held.{value_held}
use Rattle.dl_table.specs.Written.{entry_bytes}
use Rattle.dl_table.proofs.table.spelled.row_len.Given as goal

abbrev pub invariant-loop-i : goal.invariant-loop-i
invariant-loop-i l =
    record {
      fits : l.len < 2 ^ 64;
      same :
          min (l.len + length (entry_bytes Little l.format (drop l.i l.pairs)
          (drop l.i (map (value_held l.pool) l.held)))) (2 ^ 64 - 1)
          ≡ min (length (entry_bytes Little l.format l.pairs (map (value_held l.pool) l.held))) (2 ^ 64 - 1);
    }
