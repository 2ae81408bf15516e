use Rattle.std.proofs.Common.{◌≡◌, ◌+◌, ◌-◌, ◌^◌, ◌<◌, min, drop, length}
use Rattle.std.specs.List.{flat_map}
use Rattle.dl_num.specs.declared.fixed.Order.TheVariants.{Little}
use Rattle.dl_table.specs.Held.{table_of}
use Rattle.dl_table.specs.Written.{entry_bytes}
use Rattle.dl_table.proofs.table.spelled.rows_len.Given as goal

abbrev pub invariant-loop-i : goal.invariant-loop-i
invariant-loop-i l =
    let entries = (table_of l.format l.pairs l.values l.pool).entries in
    record {
      fits : l.len < 2 ^ 64;
      same :
          min (l.len + length (flat_map (entry_bytes Little l.format l.pairs) (drop l.i entries))) (2 ^ 64 - 1)
          ≡ min (length (flat_map (entry_bytes Little l.format l.pairs) entries)) (2 ^ 64 - 1);
    }
