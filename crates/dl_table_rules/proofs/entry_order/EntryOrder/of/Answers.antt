use Rattle.std.proofs.Common.{rules, ◌≡◌, ◌∙◌, length, sym, subst}
use Rattle.std.proofs.lemmas.Fn.{always_returns_same}
use Rattle.std.proofs.lemmas.List.{length-map}
use Rattle.dl_table.specs.EntryData.{with_content}
use Rattle.dl_table_rules.specs.Duplicates.{entries_of}
use Rattle.dl_table_rules.specs.Ordering.{AreBelow, AreOrdered, AreTwins}
use Rattle.dl_table_rules.proofs.TwinLemmas.{are_below}
use Rattle.dl_table_rules.proofs.entry_order.EntryOrder.of.Goals as goal

pub returns-clause-order : goal.returns-clause-order
returns-clause-order g c =
    let t = c.args.table.now in
    record {
      listed = c.in_ok-entries.entries.items;
      are = c.in_ok-entries.ensures.are;
      all = c.in_ok-entries.ensures.all ∙ sym (length-map t.entries (with_content t.pairs));
      sorted = c.in_ok-sort_by_key.ensures.sorted (λ e. e) (always_returns_same _ (λ a r. r ≡ a.0.now) _ (λ a r q k. search rules));
      stable = c.in_ok-sort_by_key.ensures.stable (λ e. e) (always_returns_same _ (λ a r. r ≡ a.0.now) _ (λ a r q k. search rules));
    }

pub twins_of-requires : goal.twins_of-requires
twins_of-requires g c =
    let t = c.args.table.now in
    let es = c.sort_by_key.new.list.items in
    let keys = always_returns_same _ (λ a r. r ≡ a.0.now) _ (λ a r q k. search rules) in
    let order : AreOrdered es (entries_of t) =
    record {
      listed = c.in_ok-entries.entries.items;
      are = c.in_ok-entries.ensures.are;
      all = c.in_ok-entries.ensures.all ∙ sym (length-map t.entries (with_content t.pairs));
      sorted = c.in_ok-sort_by_key.ensures.sorted (λ e. e) keys;
      stable = c.in_ok-sort_by_key.ensures.stable (λ e. e) keys;
    } in
    let count : length (entries_of t) ≡ c.len.result = length-map t.entries (with_content t.pairs) ∙ sym c.len.ensures in
    subst (λ n. AreBelow n c.as_slice.result.now) count
    (subst (AreBelow (length (entries_of t))) (sym c.as_slice.ensures.value) (are_below es (entries_of t) order))

pub invariant_of-result : goal.invariant_of-result
invariant_of-result g c =
    record {
      are_twins = subst (λ es. AreTwins es c.in_ok-twins.twins.items) c.as_slice.ensures.value c.in_ok-twins.ensures.twins;
    }
