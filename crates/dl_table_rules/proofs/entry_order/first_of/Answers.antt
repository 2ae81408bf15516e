use Rattle.std.proofs.Common.{rules, ◌≡◌, ◌∙◌, ◌≤◌, ap, refl, sym, true, false, length}
use Rattle.std.specs.Prelude.{option_map}
use Rattle.std.proofs.lemmas.Option.{slice_get_past, slice_get_read}
use Rattle.std.specs.List.Sorted.{IsPartitionPoint, IsSorted}
use Rattle.std.specs.Ordering.{is_lt}
use Rattle.std.proofs.lemmas.List.Sorted.{IsPartitionPoint-from_clause}
use Rattle.dl_table_rules.specs.Ordering.{at_cmp}
use Rattle.dl_table_rules.specs.declared.entry_order.EntryAt.{EntryAt}
use Rattle.dl_table_rules.proofs.OrderLemmas.{first_is, partitioned}
use Rattle.dl_table_rules.proofs.entry_order.first_of.Goals as goal
use Rattle.dl_table_rules.proofs.entry_order.first_of.Goals.{After-partition_point-first}

split : (c : After-partition_point-first) → IsSorted at_cmp c.args.ordered.now
    → IsPartitionPoint (λ e. is_lt (at_cmp e c.args.wanted.now) ≡ true) (λ e. is_lt (at_cmp e c.args.wanted.now) ≡ false)
    c.args.ordered.now c.partition_point-first.result
split c sorted =
    IsPartitionPoint-from_clause (λ e. is_lt (at_cmp e c.args.wanted.now)) c.args.ordered.now
    c.partition_point-first.result c.partition_point-first.ensures.partitioned
    (partitioned c.args.ordered.now c.args.wanted.now sorted) (λ a r q k. search rules)

pub returns-in-Some : goal.returns-in-Some
returns-in-Some c entries place order is =
    let es = c.args.ordered.now in
    let first = c.partition_point-first.result in
    let held = c.in-Some.ensures.lookup.3 in
    let at = slice_get_read es (length es) first c.in-Some.entry.now refl held.0 (held.1 c.in-Some.entry.now) in
    ap (option_map (λ e. e.place)) (sym at)
    ∙ first_is es c.args.wanted.now first entries place order is
    (split (goal.at.returns-in-Some c).After-partition_point-first order.sorted)

pub returns-in-None : goal.returns-in-None
returns-in-None c entries place order is =
    let es = c.args.ordered.now in
    let first = c.partition_point-first.result in
    let past : length es ≤ first = (rw c.in-None.is at c.get.ensures.lookup).3 in
    ap (option_map (λ (e : EntryAt). e.place)) (sym (slice_get_past es first past))
    ∙ first_is es c.args.wanted.now first entries place order is
    (split (goal.at.returns-in-None c).After-partition_point-first order.sorted)
