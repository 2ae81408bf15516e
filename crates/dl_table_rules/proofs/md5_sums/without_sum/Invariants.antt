use Rattle.std.proofs.Common.{◌≡◌, ◌≤◌}
use Rattle.std.specs.List.{filter, range_with_len}
use Rattle.std.specs.Prelude.{not}
use Rattle.dl_head.specs.Numbers.{first_number}
use Rattle.dl_table_rules.specs.Keeping.{counted}
use Rattle.dl_table_rules.specs.Sums.{has_sum}
use Rattle.dl_table_rules.proofs.md5_sums.without_sum.Given as goal

abbrev pub invariant-loop-place : goal.invariant-loop-place
invariant-loop-place l =
    record {
      few : l.without.files ≤ l.place;
      numbers : l.without
          ≡ counted (filter (λ n. not (has_sum l.header n)) (range_with_len (first_number l.header.params) l.place));
    }
