use Rattle.std.proofs.Common.{◌≡◌, ℕ, ◌+◌, ◌<◌, false, true}
use Rattle.std.specs.Prelude.{slice_index_or}
use Rattle.std.specs.Ordering.{is_lt}
use Rattle.dl_table_rules.specs.Ordering.{at_cmp}
use Rattle.dl_table_rules.specs.declared.entry_order.EntryAt.{EntryAt}
use Rattle.dl_table_rules.proofs.entry_order.mark_twins.Given as goal

abbrev pub invariant-loop-k : goal.invariant-loop-k
invariant-loop-k l =
    (j : ℕ) (d : EntryAt) → j + 1 < l.k
    → is_lt (at_cmp (slice_index_or l.ordered j d) (slice_index_or l.ordered (j + 1) d)) ≡ false
    → (slice_index_or l.twins (slice_index_or l.ordered j d).place false ≡ true)
    × (slice_index_or l.twins (slice_index_or l.ordered (j + 1) d).place false ≡ true)
