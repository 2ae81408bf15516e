use Rattle.std.proofs.Common.{◌≡◌, ◌≤◌, length, map, drop}
use Rattle.dl_table.specs.Built.{wrong_value}
use Rattle.dl_table.specs.Held.{value_lent}
use Rattle.dl_table.proofs.table.building.wrong_value.Given as goal

abbrev pub invariant-loop-place : goal.invariant-loop-place
invariant-loop-place l = record {
  counted : l.place ≤ length l.values;
  same : wrong_value l.format 0 l.pairs (map value_lent l.values)
      ≡ wrong_value l.format l.place (drop l.place l.pairs) (drop l.place (map value_lent l.values));
}
