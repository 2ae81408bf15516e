use Rattle.std.proofs.Common.{◌∙◌, ◌<◌, ◌≤◌, arith, length, sym, subst}
use Rattle.std.proofs.lemmas.List.{length-map}
use Rattle.dl_table.specs.EntryData.{with_content}
use Rattle.dl_table_rules.specs.Duplicates.{entries_of, same_at}
use Rattle.dl_table_rules.specs.Ordering.{AreOrdered}
use Rattle.dl_table_rules.proofs.TwinLemmas.{none_same}
use Rattle.dl_table_rules.proofs.FirstLemmas.{first_before, none_at_all, none_before}
use Rattle.dl_table_rules.proofs.OrderLemmas.{entry_is, none_left}
use Rattle.dl_table_rules.proofs.entry_order.EntryOrder.first_same.Goals as goal

pub returns-then-not-has_twin-clause-first : goal.returns-then-not-has_twin-clause-first
returns-then-not-has_twin-clause-first c order =
    let t = c.args.table.now in
    let lt : c.args.place < length (entries_of t) = omega (arith, c.requires, length-map t.entries (with_content t.pairs)) in
    none_same c.args.self.now.entries.items (entries_of t) c.args.self.now.twins.items c.args.place order
    c.args.self.now.are_twins lt (sym c.has_twin.ensures ∙ c.if-not-has_twin.true)

pub returns-in_err-entry-clause-first : goal.returns-in_err-entry-clause-first
returns-in_err-entry-clause-first c order =
    let t = c.args.table.now in
    absurd (omega (arith, c.requires, none_left t.pairs t.entries c.args.place c.in_err-entry.ensures))

pub returns-in_err-first-clause-first : goal.returns-in_err-first-clause-first
returns-in_err-first-clause-first c order =
    let t = c.args.table.now in
    let all = entries_of t in
    let place = c.args.place in
    let is = entry_is t.pairs t.entries place c.in_ok-entry.field-0 c.in_ok-entry.ensures in
    let within : place ≤ length all = omega (arith, c.requires, length-map t.entries (with_content t.pairs)) in
    c.from_residual-in_err-first.ensures
    ∙ none_at_all (λ other. same_at all other place) (length all) place within
    (sym (c.in_err-first.ensures all place (subst (λ es. AreOrdered es all) (sym c.as_slice.ensures.value) order) is))

pub returns-then-first-place-clause-first : goal.returns-then-first-place-clause-first
returns-then-first-place-clause-first c order =
    let t = c.args.table.now in
    let all = entries_of t in
    let place = c.args.place in
    let is = entry_is t.pairs t.entries place c.in_ok-entry.field-0 c.in_ok-entry.ensures in
    let within : place ≤ length all = omega (arith, c.requires, length-map t.entries (with_content t.pairs)) in
    first_before (λ other. same_at all other place) (length all) place within c.in_ok-first.first
    (sym (c.in_ok-first.ensures all place (subst (λ es. AreOrdered es all) (sym c.as_slice.ensures.value) order) is))
    c.if-first-place.true

pub returns-else-first-place-clause-first : goal.returns-else-first-place-clause-first
returns-else-first-place-clause-first c order =
    let t = c.args.table.now in
    let all = entries_of t in
    let place = c.args.place in
    let is = entry_is t.pairs t.entries place c.in_ok-entry.field-0 c.in_ok-entry.ensures in
    let within : place ≤ length all = omega (arith, c.requires, length-map t.entries (with_content t.pairs)) in
    none_before (λ other. same_at all other place) (length all) place within c.in_ok-first.first
    (sym (c.in_ok-first.ensures all place (subst (λ es. AreOrdered es all) (sym c.as_slice.ensures.value) order) is))
    c.if-first-place.false
