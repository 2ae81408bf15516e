-- The laws of the order of entries. No promise rests on this file.
use Rattle.std.specs.Cmp.{IsTotalOrder, nat_cmp_total, on_total, then_total}
use Rattle.std.specs.Cmp.Lexicographic.{lists_total, nat_list_cmp_total}
use Rattle.dl_table_rules.specs.Ordering.{at_cmp, bytes_of, entry_cmp, items_at, kind_of, number_of, value_cmp}

pub value_total : IsTotalOrder value_cmp
value_total =
    then_total (then_total (on_total kind_of nat_cmp_total) (on_total number_of nat_cmp_total))
    (on_total bytes_of nat_list_cmp_total)

pub entry_total : IsTotalOrder entry_cmp
entry_total = lists_total (then_total (on_total (λ i. i.0) nat_cmp_total) (on_total (λ i. i.1) value_total))

pub at_total : IsTotalOrder at_cmp
at_total = on_total items_at entry_total
