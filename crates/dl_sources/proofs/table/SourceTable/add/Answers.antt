use Rattle.std.proofs.Common.{◌≡◌, ap, arith, sym, ◌∙◌, None, Some, length, ◌+◌, ℕ}
use Rattle.std.specs.BTreeMap.{BTreeMap, insert_entry}
use Rattle.std.specs.Global.{Vec}
use Rattle.std.specs.Map.{set_value}
use Rattle.std.specs.Option.{option_copied_mut}
use Rattle.dl_sources.specs.declared.table.PathTotals.{PathTotals}
use Rattle.dl_sources.specs.Holding.{looked, paths_in, same_bytes, with_told}
use Rattle.dl_sources.proofs.ResultLemmas.{at_most, on_err, on_ok}
use Rattle.dl_sources.proofs.TableLemmas.{few_found, few_paths, found_is, holds_more, look_insert, look_set, none_is, order}
use Rattle.dl_sources.proofs.TableLemmas.{paths_found, paths_insert, paths_same}
use Rattle.dl_sources.proofs.table.SourceTable.add.Goals as goal

pub returns-in-Some-clause-told : goal.returns-in-Some-clause-told
returns-in-Some-clause-told g c =
    on_ok c.add.result c.add.ensures.told (λ told mentions held.
    let v = c.in-Some.totals.now in
    let w = c.add.new.self in
    let p = c.args.path.items in
    let es = c.args.self.now.paths.entries in
    let found : looked p es ≡ Some v =
    ap (λ x. looked x es) (sym c.as_slice.ensures.value) ∙ sym c.get_mut.ensures.value ∙ ap option_copied_mut c.in-Some.is in
    let writes = c.get_mut.follows.holds w in
    holds_more mentions (record { path = p; counts = c.args.counts; sum = c.args.sum }) c.args.self.now
    (record { paths = c.get_mut.follows.lender w }) held w
    (λ q. ap (looked q) (writes.0 ∙ ap (λ x. set_value (λ k. same_bytes x k.items) es w) c.as_slice.ensures.value)
    ∙ look_set p q w es v found)
    (told ∙ ap (λ t. with_told t c.args.counts c.args.sum) (sym (found_is p es v found)))
    (paths_same es (c.get_mut.follows.lender w).entries writes.1 ∙ sym (paths_found p es v c.get_mut.ensures.ordered found)))

pub returns-in-Some-clause-refused : goal.returns-in-Some-clause-refused
returns-in-Some-clause-refused g c =
    on_err c.add.result c.add.ensures.refused (λ refused mentions held.
    let p = c.args.path.items in
    let es = c.args.self.now.paths.entries in
    let found : looked p es ≡ Some c.in-Some.totals.now =
    ap (λ x. looked x es) (sym c.as_slice.ensures.value) ∙ sym c.get_mut.ensures.value ∙ ap option_copied_mut c.in-Some.is in
    at_most (g.M.Memory.refuses c.args.memory.now) _ _
    (omega (arith, few_found c.args.self.now mentions held p c.in-Some.totals.now found)) refused)

pub returns-clause-told : goal.returns-clause-told
returns-clause-told g c =
    on_ok c.insert_into_map.result c.insert_into_map.ensures.entries (λ entries mentions held.
    let p = c.args.path.items in
    let w = c.add-2.new.self in
    let es = c.args.self.now.paths.entries in
    let none : looked p es ≡ None =
    ap (λ x. looked x es) (sym c.as_slice.ensures.value) ∙ sym c.get_mut.ensures.value ∙ ap option_copied_mut c.in_default.is in
    let all = entries ∙ ap (λ (m : BTreeMap (Vec ℕ) PathTotals). insert_entry order m.entries c.args.path w)
    c.get_mut.follows.holds-at-none in
    holds_more mentions (record { path = p; counts = c.args.counts; sum = c.args.sum }) c.args.self.now
    (record { paths = c.insert_into_map.new.map }) held w
    (λ q. ap (looked q) all ∙ look_insert q c.args.path w es)
    (c.in_ok-add.ensures.told
    ∙ ap (λ t. with_told t c.args.counts c.args.sum) (c.new-totals.ensures ∙ sym (none_is p es none)))
    (ap paths_in all ∙ paths_insert c.args.path w es))

pub returns-clause-refused : goal.returns-clause-refused
returns-clause-refused g c =
    on_err c.insert_into_map.result c.insert_into_map.ensures.refused (λ refused mentions held. (
      length c.get_mut.follows.lender-at-none.entries + 1,
      omega (
        arith,
        few_paths c.args.self.now mentions held,
        ap (λ (m : BTreeMap (Vec ℕ) PathTotals). length m.entries) c.get_mut.follows.holds-at-none,
      ),
      refused,
    ))
