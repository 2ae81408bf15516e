use Rattle.std.proofs.Common.{◌≡◌, ◌∙◌, ◌+◌, [], ◌∷◌, arith, sym, ap, length, subst, length-append}
use Rattle.std.specs.Prelude.{slice_get}
use Rattle.std.proofs.lemmas.List.{length-map}
use Rattle.std.proofs.lemmas.Option.{slice_get_within}
use Rattle.dl_table.specs.EntryData.{with_content}
use Rattle.dl_table_rules.specs.Duplicates.{entries_of}
use Rattle.dl_table_rules.specs.Ordering.{AreAt, items_at}
use Rattle.dl_table_rules.specs.declared.entry_order.EntryAt.{EntryAt}
use Rattle.dl_table_rules.proofs.OrderLemmas.{at-push, entry_is, none_left}
use Rattle.dl_table_rules.proofs.entry_order.listed.Goals as goal

pub loop-entry-preserved : goal.loop-entry-preserved
loop-entry-preserved g c =
    let t = c.args.table.now in
    let place = c.loop-entry.place in
    let es = c.loop-entry.entries.items in
    let e : EntryAt = record { entry = c.in-Some.entry; place = place } in
    let is = entry_is t.pairs t.entries place c.in-Some.entry c.in-Some.ensures in
    let lt = slice_get_within (entries_of t) place (items_at e) is in
    let n : 0 + length es ≡ place = omega (arith, c.loop-entry.invariant.2) in (
      omega (arith, lt, length-map t.entries (with_content t.pairs)),
      subst (AreAt (entries_of t) 0) (sym c.in_ok-push.ensures.items)
          (at-push (entries_of t) 0 es e c.loop-entry.invariant.1 (sym n) (ap (slice_get (entries_of t)) n ∙ is)),
      ap length c.in_ok-push.ensures.items ∙ omega (arith, length-append es (e ∷ []), c.loop-entry.invariant.2),
    )

pub returns-clause-all : goal.returns-clause-all
returns-clause-all g c =
    let t = c.args.table.now in
    omega (
      arith,
      c.loop-entry.invariant.2,
      c.loop-entry.invariant.0,
      none_left t.pairs t.entries c.loop-entry.place c.in_default.ensures,
    )
