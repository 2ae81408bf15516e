use Rattle.std.proofs.Common.{◌≡◌, ◌+◌, ◌-◌, ◌^◌, ◌<◌, min, drop, length}
use Rattle.std.specs.List.{flat_map}
use Rattle.dl_table.specs.Written.{pair_bytes}
use Rattle.dl_table.proofs.table.spelled.pairs_len.Given as goal

abbrev pub invariant-loop-pair : goal.invariant-loop-pair
invariant-loop-pair l =
    record {
      fits : l.len < 2 ^ 64;
      same :
          min (l.len + length (flat_map pair_bytes (drop l.pair-index l.pairs))) (2 ^ 64 - 1)
          ≡ min (length (flat_map pair_bytes l.pairs)) (2 ^ 64 - 1);
    }
