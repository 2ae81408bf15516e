use Rattle.std.proofs.Common.{◌≡◌, ℕ, ◌-◌, ◌≤◌, false, length}
use Rattle.std.specs.Prelude.{slice_index_or}
use Rattle.dl_table_rules.proofs.files_named.all_false.Given as goal

abbrev pub invariant-loop-list : goal.invariant-loop-list
invariant-loop-list g l =
    (length l.list.items ≤ l.count) × ((place : ℕ) → slice_index_or l.list.items place false ≡ false)

abbrev pub decreases-loop-list : goal.decreases-loop-list
decreases-loop-list g l = l.count - length l.list.items
